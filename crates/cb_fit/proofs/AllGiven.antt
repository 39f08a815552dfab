-- What a way gives values, and what variables have then.
use Rattle.std.proofs.Common.{◌≡◌, ◌∙◌, Bool, true, false, cond, ℕ, List, [], ◌∷◌, ◌++◌, Option, None, Some, ap, refl, subst, sym}
use Rattle.std.proofs.lemmas.Grind.{flat_map-append}
use Rattle.std.proofs.lemmas.List.{append-nil, append_assoc}
use Rattle.std.specs.List.{flat_map}
use Rattle.std.specs.Cmp.Lexicographic.{bytes_decides}
use Rattle.std.specs.Option.{option_map_or}
use Rattle.std.specs.Str.{bytes_eq}
use Rattle.cb_constraints.specs.Constraints.{Test, constant, variable, predicate, return_value, Check, Demand, nothing, each, either, Constraint}
use Rattle.cb_constraints.specs.Holding.{after_check, after_checks, after_demand, after_test, one_holds, opposite_if, provided, after_variable, test_holds}
use Rattle.cb_constraints.specs.Internal.Known.{given_to, given_to_all}
use Rattle.cb_constraints.specs.PatternValues.{PatternParts, PatternValue, SlotValue}
use Rattle.cb_constraints.specs.PatternValues as pattern
use Rattle.cb_eval.specs.Comparison.{same}
use Rattle.cb_exprs.specs.Bindings.{Bindings, value_at, with_variable, with_variables}
use Rattle.cb_exprs.proofs.ValueLaws.{value_at-with_value, value_at_set}
use Rattle.cb_facts.specs.Facts.{FactContent, FactValue}
use Rattle.cb_facts.specs.Facts as fact
use Rattle.cb_facts.specs.declared.single.Single.{Single}
use Rattle.cb_facts.specs.declared.value.Value.{Value}
use Rattle.cb_fit.proofs.Givings.{GivenSoFar, given_all, given_one, given_once, given_more}
use Rattle.cb_fit.proofs.Segments.{then-some}
use Rattle.cb_fit.proofs.WithoutVariables.{provided-if}
use Rattle.cb_constraints.specs.Binders.{binder, binders, binders_in, binders_of, constraints_in}
use Rattle.cb_constraints.specs.Bound.{newly_bound}
use Rattle.cb_fit.specs.Related.{Fits, HoldInTurn, PartsFit, SlotsFit}
use Rattle.cb_fit.specs.Ways.{segment_value}

-- each variable with a value still has it
abbrev pub Keeps : Bindings → Bindings → Type 0
Keeps before after = (x : List ℕ) (v : Value) → value_at x before.variables ≡ Some v → value_at x after.variables ≡ Some v

keeps-all : (env grown : Bindings) → env ≡ grown → Keeps env grown
keeps-all env grown e = subst (Keeps env) e (λ x v h. h)

abbrev gave : List (List ℕ × Value) → Bindings → GivenSoFar
gave bound env = record { bound = bound; env = env }

-- from the one to the other just these variables get values, and each has its value afterwards
abbrev pub Gives : List (List ℕ) → Bindings → Bindings → Type 0
Gives names before grown =
    (after : Bindings) (bound : List (List ℕ × Value)) → Keeps grown after
    → (more : List (List ℕ × Value)) × (given_all names after (gave bound before) ≡ gave (bound ++ more) grown) × (with_variables more before ≡ grown)

abbrev pub Step : List (List ℕ) → Bindings → Bindings → Type 0
Step names before grown = Keeps before grown × Gives names before grown

pub gives-none : (env grown : Bindings) → env ≡ grown → Step [] env grown
gives-none env grown e = subst (Step [] env) e ((λ x v h. h), (λ after bound keeps. ([], ap (λ b. gave b env) (sym (append-nil bound)), refl)))

given-together : (more others : List (List ℕ × Value)) (env : Bindings) → with_variables (more ++ others) env ≡ with_variables others (with_variables more env)
given-together [] others env = refl
given-together (s ∷ more) others env = given-together more others (with_variable s.0 s.1 env)

pub both : (xs ys : List (List ℕ)) (a b c : Bindings) → Step xs a b → Step ys b c → Step (xs ++ ys) a c
both xs ys a b c h i = (
  (λ x v e. i.0 x v (h.0 x v e)),
  (λ after bound keeps.
      let first = h.1 after bound (λ x v e. keeps x v (i.0 x v e)) in
      let second = i.1 after (bound ++ first.0) keeps in (
        first.0 ++ second.0,
        given_more xs ys after (gave bound a) ∙ (ap (given_all ys after) first.1 ∙ (second.1 ∙ ap (λ b. gave b c) (append_assoc bound first.0 second.0))),
        given-together first.0 second.0 a ∙ (ap (with_variables second.0) first.2 ∙ second.2),
      )),
)

-- a variable that had no value
others-keep : (x : List ℕ) (v : Value) (env : Bindings) → value_at x env.variables ≡ None → Keeps env (with_variable x v env)
others-keep x v env none y w e = value_at-with_value env.variables y x v ∙ (ap (λ t. cond t (Some v) (value_at y env.variables)) (other (bytes_eq y x) (bytes_decides y x).0) ∙ e)
  where
    other : (t : Bool) → (t ≡ true → y ≡ x) → t ≡ false
    other false is = refl
    other true is = absurd (apart (sym none ∙ (ap (λ z. value_at z env.variables) (sym (is refl)) ∙ e)))
      where
        apart : None ≡ Some w → ⊥
        apart d = cc

takes-first : (x : List ℕ) (v : Value) (env : Bindings) (o p : Option Value) (bound : List (List ℕ × Value)) → o ≡ None → p ≡ Some v → given_one x o p (gave bound env) ≡ gave (bound ++ (x, v) ∷ []) (with_variable x v env)
takes-first x v env o p bound e d = ap (λ q. given_one x q p (gave bound env)) e ∙ ap (λ q. given_one x None q (gave bound env)) d

has-already : (x : List ℕ) (w : Value) (o p : Option Value) (g : GivenSoFar) → o ≡ Some w → given_one x o p g ≡ g
has-already x w o p g e = ap (λ q. given_one x q p g) e

gave-one : (x : List ℕ) (v : Value) (env : Bindings) → Step (x ∷ []) env (given_to x v env)
gave-one x v env = by (value_at x env.variables) refl
  where
    by : (o : Option Value) → value_at x env.variables ≡ o → Step (x ∷ []) env (option_map_or (λ w. env) o (with_variable x v env))
    by None is = (
      others-keep x v env is,
      (λ after bound keeps.
          ((x, v) ∷ [], takes-first x v env (value_at x env.variables) (value_at x after.variables) bound is (keeps x v (value_at_set env.variables x v)), refl)),
    )
    by (Some w) is = (
      (λ y u h. h),
      (λ after bound keeps.
          ([], has-already x w (value_at x env.variables) (value_at x after.variables) (gave bound env) is ∙ ap (λ b. gave b env) (sym (append-nil bound)), refl)),
    )

-- several get one value, if they have none
pub gave-all : (xs : List (List ℕ)) (v : Value) (env : Bindings) → Step xs env (given_to_all xs v env)
gave-all [] v env = gives-none env env refl
gave-all (x ∷ xs) v env = both (x ∷ []) xs env (given_to x v env) (given_to_all xs v (given_to x v env)) (gave-one x v env) (gave-all xs v (given_to x v env))

takes : (x : List ℕ) (v : Value) (env grown : Bindings) → after_variable x v env ≡ Some grown → Step (x ∷ []) env grown
takes x v env grown e = subst (Step (x ∷ []) env) (by (value_at x env.variables) e) (gave-one x v env)
  where
    same-one : (a b : Bindings) → Some a ≡ Some b → a ≡ b
    same-one a b d = cc

    by : (o : Option Value) → option_map_or (λ w. provided (same v w) env) o (Some (with_variable x v env)) ≡ Some grown → option_map_or (λ w. env) o (with_variable x v env) ≡ grown
    by None d = same-one (with_variable x v env) grown d
    by (Some w) d = (provided-if (same v w) env grown d).1

pub test-gives : (negated : Bool) (t : Test) (v : Value) (env grown : Bindings) → after_test negated t v env ≡ Some grown → Step (binder negated t) env grown
test-gives false (variable x) v env grown e = takes x v env grown e
test-gives false (constant w) v env grown e = gives-none env grown (provided-if (opposite_if false (test_holds (constant w) v env)) env grown e).1
test-gives false (predicate t) v env grown e = gives-none env grown (provided-if (opposite_if false (test_holds (predicate t) v env)) env grown e).1
test-gives false (return_value t) v env grown e = gives-none env grown (provided-if (opposite_if false (test_holds (return_value t) v env)) env grown e).1
test-gives true (variable x) v env grown e = gives-none env grown (provided-if (opposite_if true (test_holds (variable x) v env)) env grown e).1
test-gives true (constant w) v env grown e = gives-none env grown (provided-if (opposite_if true (test_holds (constant w) v env)) env grown e).1
test-gives true (predicate t) v env grown e = gives-none env grown (provided-if (opposite_if true (test_holds (predicate t) v env)) env grown e).1
test-gives true (return_value t) v env grown e = gives-none env grown (provided-if (opposite_if true (test_holds (return_value t) v env)) env grown e).1

same-one : (a b : Bindings) → Some a ≡ Some b → a ≡ b
same-one a b d = cc

checks-give : (cs : List Check) (v : Value) (env grown : Bindings) → after_checks cs v env ≡ Some grown → Step (binders_of cs) env grown
checks-give [] v env grown e = gives-none env grown (same-one env grown e)
checks-give (c ∷ cs) v env grown e =
    let w = then-some (after_checks cs v) (after_check c v env) grown e in
    both (binder c.negated c.test) (binders_of cs) env w.0 grown (test-gives c.negated c.test v env w.0 w.1) (checks-give cs v w.0 grown w.2)

pub demand-gives : (d : Demand) (v : Value) (env grown : Bindings) → after_demand d v env ≡ Some grown → Step (binders d) env grown
demand-gives nothing v env grown e = gives-none env grown (same-one env grown e)
demand-gives (each cs) v env grown e = checks-give cs v env grown e
demand-gives (either None alternatives) v env grown e = gives-none env grown (provided-if (one_holds alternatives v env) env grown e).1
demand-gives (either (Some x) alternatives) v env grown e =
    let w = then-some (λ mid. provided (one_holds alternatives v mid) mid) (after_variable x v env) grown e in
    subst (Step (x ∷ []) env) (provided-if (one_holds alternatives v w.0) w.0 grown w.2).1 (takes x v env w.0 w.1)

pub turn-gives : (cs : List Constraint) (ss : List (List Single)) (before after : Bindings) → HoldInTurn cs ss before after → Step (binders_in cs) before after
turn-gives [] [] before after h = gives-none before after h
turn-gives [] (s ∷ ss) before after h = absurd h
turn-gives (c ∷ cs) [] before after h = absurd h
turn-gives (c ∷ cs) (s ∷ ss) before after h =
    let w = then-some (λ v. after_demand c.demand v before) (segment_value c.segment s) h.0 h.1 in
    both (binders c.demand) (binders_in cs) before h.0 after (demand-gives c.demand w.0 before h.0 w.2) (turn-gives cs ss h.0 after h.2)

slots-give : (ss : List SlotValue) (slots : List (List ℕ × Value)) (cuts : List ℕ) (before after : Bindings) → SlotsFit ss slots cuts before after → Step (binders_in (flat_map (λ s. s.row) ss)) before after
slots-give [] slots cuts before after h = gives-none before after h.1
slots-give (s ∷ ss) slots cuts before after (v, own, others, grown, is, joined, first, more) =
    subst (λ names. Step names before after) (sym (flat_map-append (λ c. binders c.demand) s.row (flat_map (λ t. t.row) ss)))
    (both (binders_in s.row) (binders_in (flat_map (λ t. t.row) ss)) before grown after (turn-gives s.row first.0 before grown first.3) (slots-give ss slots others grown after more))

parts-give : (p : PatternParts) (f : FactContent) (cuts : List ℕ) (before after : Bindings) → PartsFit p f cuts before after → Step (binders_in (constraints_in p)) before after
parts-give (pattern.fields row) (fact.fields fs) cuts before after h = turn-gives row h.0 before after h.3
parts-give (pattern.fields row) (fact.slots ss) cuts before after h = absurd h
parts-give (pattern.slots rows) (fact.fields fs) cuts before after h = absurd h
parts-give (pattern.slots rows) (fact.slots ss) cuts before after h = slots-give rows ss cuts before after h

pub bound-gives : (p : PatternParts) (before after : Bindings) → Step (binders_in (constraints_in p)) before after → with_variables (newly_bound p before after) before ≡ after
bound-gives p before after h =
    let w = h.1 after [] (λ x v e. e) in
    ap (λ bound. with_variables bound before) (sym (given_once (binders_in (constraints_in p)) after (gave [] before))) ∙ ap (λ g. with_variables g.bound before) w.1 ∙ w.2

pub all-given : (p : PatternValue) (f : FactValue) (cuts : List ℕ) (before after : Bindings) → Fits p f cuts before after → with_variables (newly_bound p.parts before after) before ≡ after
all-given p f cuts before after h = bound-gives p.parts before after (parts-give p.parts f.content cuts before after h.1)
