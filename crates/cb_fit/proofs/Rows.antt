-- Which lengths a constraint can take, by those that follow it.
use Rattle.std.proofs.Common.{arith, ◌≡◌, ◌≢◌, ◌∙◌, ◌+◌, ◌-◌, ◌<◌, ◌≤◌, Bool, true, false, List, ℕ, zero, suc, [], ◌∷◌, ◌++◌, Option, None, Some, ap, drop, length, map, refl, replicate, rules, sym, take}
use Rattle.std.proofs.lemmas.List.{append-nil, append_assoc, length-drop}
use Rattle.std.specs.Option.{option_and_then}
use Rattle.std.specs.Prelude.{option_map, option_to_list, if◌then◌else◌}
use Rattle.cb_constraints.specs.Constraints.{Constraint}
use Rattle.cb_constraints.specs.Holding.{after_demand}
use Rattle.cb_constraints.specs.Rows.{fields_wanted, segments_wanted}
use Rattle.cb_exprs.specs.Bindings.{Bindings}
use Rattle.cb_facts.specs.Values.{value_of_field}
use Rattle.cb_facts.specs.declared.single.Single.{Single}
use Rattle.cb_fit.proofs.Numbers.{at-both-ends, nothing-of-all}
use Rattle.cb_fit.specs.Ways.{Taken, after_cuts, each_followed_by, segment_value, ways_of_row, with_length}
use Rattle.cb_fit.specs.Internal.{after_ones}

-- nothing comes of what nothing can follow
pub nothing-follows : (next : Bindings → List Taken) (firsts : List Taken) → ((env : Bindings) → next env ≡ []) → each_followed_by next firsts ≡ []
nothing-follows next [] h = refl
nothing-follows next (t ∷ ts) h = ap (λ xs. map (after_cuts t.cuts) xs ++ each_followed_by next ts) (h t.env) ∙ nothing-follows next ts h

-- a constraint for one field takes no other number
pub not-one : (segment : Bool) (i : ℕ) (fields : List Single) → segment ≡ false → i ≤ length fields → i ≢ 1 → segment_value segment (take i fields) ≡ None
not-one true i fields e h d = search rules
not-one false zero fields e h d = refl
not-one false (suc zero) fields e h d = absurd (d refl)
not-one false (suc (suc i)) [] e h d = refl
not-one false (suc (suc i)) (f ∷ []) e h d = absurd (omega arith)
not-one false (suc (suc i)) (f ∷ g ∷ fs) e h d = refl

pub takes-no-other : (c : Constraint) (fields : List Single) (env : Bindings) (i : ℕ) → c.segment ≡ false → i ≤ length fields → i ≢ 1 → with_length c fields env i ≡ []
takes-no-other c fields env i e h d =
    ap (λ v. option_to_list (option_map (λ grown. record { cuts = i ∷ []; env = grown }) (option_and_then (λ w. after_demand c.demand w env) v))) (not-one c.segment i fields e h d)

-- what comes of a constraint with this length, before these
abbrev pub step : Constraint → List Constraint → List Single → Bindings → ℕ → List Taken
step c cs fields env n = each_followed_by (ways_of_row cs (drop n fields)) (with_length c fields env n)

pub shorter : (xs : List Single) (i m : ℕ) → length xs - i < m → length (drop i xs) < m
shorter xs i m h = rw (length-drop i xs) h

-- where so few fields are left, no length leaves as many as the others want
pub short-step : (c : Constraint) (cs : List Constraint) (fields : List Single) (env : Bindings) (i : ℕ) (segment : Bool) → c.segment ≡ segment → i ≤ length fields
    → length fields < (if segment then 0 else 1) + fields_wanted cs
    → ((fs : List Single) (e : Bindings) → length fs < fields_wanted cs → ways_of_row cs fs e ≡ [])
    → each_followed_by (ways_of_row cs (drop i fields)) (with_length c fields env i) ≡ []
short-step c cs fields env i true s h w ih = nothing-follows (ways_of_row cs (drop i fields)) (with_length c fields env i) (λ e. ih (drop i fields) e (shorter fields i (fields_wanted cs) (omega arith)))
short-step c cs fields env zero false s h w ih = ap (each_followed_by (ways_of_row cs (drop zero fields))) (takes-no-other c fields env zero s h (λ d. absurd (omega arith)))
short-step c cs fields env (suc zero) false s h w ih = nothing-follows (ways_of_row cs (drop 1 fields)) (with_length c fields env 1) (λ e. ih (drop 1 fields) e (shorter fields 1 (fields_wanted cs) (omega arith)))
short-step c cs fields env (suc (suc i)) false s h w ih = ap (each_followed_by (ways_of_row cs (drop (suc (suc i)) fields))) (takes-no-other c fields env (suc (suc i)) s h (λ d. absurd (omega arith)))

-- a row takes no fewer fields than it has constraints for one field
pub too-short : (cs : List Constraint) (fields : List Single) (env : Bindings) → length fields < fields_wanted cs → ways_of_row cs fields env ≡ []
too-short [] fields env h = absurd (omega arith)
too-short (c ∷ cs) fields env h =
    nothing-of-all (step c cs fields env) 0 (length fields + 1)
    (λ i a b. short-step c cs fields env i c.segment refl (omega arith) h (too-short cs))

-- what comes of the value of a constraint for one field
abbrev pub after_one : List Constraint → List Single → Option Bindings → List Taken
after_one cs fs None = []
after_one cs fs (Some grown) = map (after_cuts (1 ∷ [])) (ways_of_row cs fs grown)

abbrev pub one_then : Constraint → List Constraint → List Single → Bindings → List Taken
one_then c cs [] env = []
one_then c cs (f ∷ fs) env = after_one cs fs (after_demand c.demand (value_of_field f) env)

pub first-of-one : (segment : Bool) (f : Single) (fs : List Single) → segment ≡ false → segment_value segment (f ∷ []) ≡ Some (value_of_field f)
first-of-one true f fs e = search rules
first-of-one false f fs e = refl

pub that-one : (cs : List Constraint) (fs : List Single) (after : Option Bindings)
    → each_followed_by (ways_of_row cs fs) (option_to_list (option_map (λ grown. record { cuts = 1 ∷ []; env = grown }) after)) ≡ after_one cs fs after
that-one cs fs None = refl
that-one cs fs (Some grown) = append-nil (map (after_cuts (1 ∷ [])) (ways_of_row cs fs grown))

-- a constraint for one field takes the first
pub one-step : (c : Constraint) (cs : List Constraint) (fields : List Single) (env : Bindings) → c.segment ≡ false → ways_of_row (c ∷ cs) fields env ≡ one_then c cs fields env
one-step c cs [] env e = nothing-of-all (step c cs [] env) 0 1 (λ i a b. ap (each_followed_by (ways_of_row cs (drop i []))) (takes-no-other c [] env i e (omega arith) (λ d. absurd (omega arith))))
one-step c cs (f ∷ fs) env e =
    at-both-ends (step c cs (f ∷ fs) env) 1 1 (suc (length fs) + 1) (omega arith)
    (λ i a. ap (each_followed_by (ways_of_row cs (drop i (f ∷ fs)))) (takes-no-other c (f ∷ fs) env i e (omega arith) (λ d. absurd (omega arith))))
    (λ i a b. ap (each_followed_by (ways_of_row cs (drop i (f ∷ fs)))) (takes-no-other c (f ∷ fs) env i e (omega arith) (λ d. absurd (omega arith))))
    ∙ (append-nil (step c cs (f ∷ fs) env 1)
    ∙ (ap (λ v. each_followed_by (ways_of_row cs fs) (option_to_list (option_map (λ grown. record { cuts = 1 ∷ []; env = grown }) (option_and_then (λ w. after_demand c.demand w env) v)))) (first-of-one c.segment f fs e)
    ∙ that-one cs fs (after_demand c.demand (value_of_field f) env)))

-- where none of a row takes a segment, it takes no more fields than it has constraints
pub is-one : (segment : Bool) (n : ℕ) → (if segment then 1 else 0) + n ≡ 0 → segment ≡ false
is-one true n e = absurd (omega arith)
is-one false n e = refl

pub others-are-ones : (segment : Bool) (n : ℕ) → (if segment then 1 else 0) + n ≡ 0 → n ≡ 0
others-are-ones true n e = absurd (omega arith)
others-are-ones false n e = omega arith

pub fewer : (segment : Bool) (n m : ℕ) → segment ≡ false → (if segment then 0 else 1) + n < suc m → n < m
fewer true n m e h = search rules
fewer false n m e h = omega arith

pub after-one-none : (cs : List Constraint) (fs : List Single) (after : Option Bindings) → ((env : Bindings) → ways_of_row cs fs env ≡ []) → after_one cs fs after ≡ []
after-one-none cs fs None h = refl
after-one-none cs fs (Some grown) h = ap (map (after_cuts (1 ∷ []))) (h grown)

pub all-of-ones : (cs : List Constraint) (fields : List Single) (env : Bindings) → segments_wanted cs ≡ 0 → fields_wanted cs < length fields → ways_of_row cs fields env ≡ []
all-of-ones [] [] env e h = absurd (omega arith)
all-of-ones [] (f ∷ fs) env e h = refl
all-of-ones (c ∷ cs) [] env e h = absurd (omega arith)
all-of-ones (c ∷ cs) (f ∷ fs) env e h =
    one-step c cs (f ∷ fs) env (is-one c.segment (segments_wanted cs) e)
    ∙ after-one-none cs fs (after_demand c.demand (value_of_field f) env)
    (λ grown. all-of-ones cs fs grown (others-are-ones c.segment (segments_wanted cs) e)
    (fewer c.segment (fields_wanted cs) (length fs) (is-one c.segment (segments_wanted cs) e) h))

-- after lengths and others, all of them
pub cuts-together : (xs ys : List ℕ) (ts : List Taken) → map (after_cuts xs) (map (after_cuts ys) ts) ≡ map (after_cuts (xs ++ ys)) ts
cuts-together xs ys [] = refl
cuts-together xs ys (t ∷ ts) =
    ap (λ cuts. record { cuts = cuts; env = t.env } ∷ map (after_cuts xs) (map (after_cuts ys) ts)) (sym (append_assoc xs ys t.cuts))
    ∙ ap (λ us. after_cuts (xs ++ ys) t ∷ us) (cuts-together xs ys ts)

pub no-cuts : (ts : List Taken) → map (after_cuts []) ts ≡ ts
no-cuts [] = refl
no-cuts (t ∷ ts) = ap (λ us. t ∷ us) (no-cuts ts)

-- what comes of constraints for one field before others
abbrev pub ones_then : List Constraint → ℕ → List Single → Option Bindings → List Taken
ones_then cs k fields None = []
ones_then cs k fields (Some grown) = map (after_cuts (replicate k 1)) (ways_of_row cs (drop k fields) grown)

pub one-more : (cs : List Constraint) (k : ℕ) (f : Single) (fs : List Single) (after : Option Bindings) → map (after_cuts (1 ∷ [])) (ones_then cs k fs after) ≡ ones_then cs (suc k) (f ∷ fs) after
one-more cs k f fs None = refl
one-more cs k f fs (Some grown) = cuts-together (1 ∷ []) (replicate k 1) (ways_of_row cs (drop k fs) grown)

pub ones-after : (os cs : List Constraint) (f : Single) (fs : List Single) (after : Option Bindings)
    → ((env : Bindings) → ways_of_row (os ++ cs) fs env ≡ ones_then cs (length os) fs (after_ones os fs env))
    → after_one (os ++ cs) fs after ≡ ones_then cs (suc (length os)) (f ∷ fs) (option_and_then (after_ones os fs) after)
ones-after os cs f fs None ih = refl
ones-after os cs f fs (Some grown) ih = ap (map (after_cuts (1 ∷ []))) (ih grown) ∙ one-more cs (length os) f fs (after_ones os fs grown)

pub ones-before : (os cs : List Constraint) (fields : List Single) (env : Bindings) → segments_wanted os ≡ 0 → ways_of_row (os ++ cs) fields env ≡ ones_then cs (length os) fields (after_ones os fields env)
ones-before [] cs fields env e = sym (no-cuts (ways_of_row cs fields env))
ones-before (o ∷ os) cs [] env e = one-step o (os ++ cs) [] env (is-one o.segment (segments_wanted os) e)
ones-before (o ∷ os) cs (f ∷ fs) env e =
    one-step o (os ++ cs) (f ∷ fs) env (is-one o.segment (segments_wanted os) e)
    ∙ ones-after os cs f fs (after_demand o.demand (value_of_field f) env) (λ grown. ones-before os cs fs grown (others-are-ones o.segment (segments_wanted os) e))
