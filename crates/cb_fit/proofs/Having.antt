-- Which variables have values after a way, for any pattern.
use Rattle.std.proofs.Common.{arith, ◌≡◌, ◌≢◌, ◌↔◌, ◌⊎◌, ◌∙◌, ◌||◌, ◌∷◌, ◌++◌, inl, inr, ℕ, zero, suc, Bool, true, false, is_some, List, [], Option, Some, None, ap, flat_map, refl, subst, sym}
use Rattle.std.proofs.lemmas.Bool.{or_cases}
use Rattle.std.proofs.lemmas.Grind.{flat_map-append}
use Rattle.std.specs.Cmp.Lexicographic.{bytes_decides}
use Rattle.std.specs.List.{Contains}
use Rattle.std.specs.Option.{option_or}
use Rattle.std.specs.Str.{bytes_eq}
use Rattle.cb_constraints.specs.Binders.{binder, binders, binders_in, binders_of, constraints_in}
use Rattle.cb_constraints.specs.Bound.{newly_bound}
use Rattle.cb_constraints.specs.Constraints.{Test, constant, variable, predicate, return_value, Check, Constraint, Demand, nothing, each, either}
use Rattle.cb_constraints.specs.Holding.{after_check, after_checks, after_demand, after_test, after_variable, one_holds, opposite_if, provided, test_holds}
use Rattle.cb_constraints.specs.Internal.Known.{given_to, given_to_all}
use Rattle.cb_constraints.specs.PatternValues.{PatternParts, PatternValue, SlotValue}
use Rattle.cb_constraints.specs.PatternValues as pattern
use Rattle.cb_fit.proofs.CheckLaws.{agree_one, variable_step}
use Rattle.cb_fit.proofs.Given.{after_several, if_so}
use Rattle.cb_fit.proofs.Members.{named_append, then_some}
use Rattle.cb_fit.proofs.Whole.{named_contained}
use Rattle.cb_fit.specs.Plain.{bound_names, is_named}
use Rattle.cb_exprs.specs.Bindings.{Bindings, value_at, with_variables}
use Rattle.cb_facts.specs.Facts.{FactContent, FactValue}
use Rattle.cb_facts.specs.Facts as fact
use Rattle.cb_facts.specs.declared.single.Single.{Single}
use Rattle.cb_facts.specs.declared.value.Value.{Value}
use Rattle.cb_fit.specs.Related.{Fits, HoldInTurn, PartsFit, SlotsFit}
use Rattle.cb_fit.specs.Ways.{WayValue, segment_value, taken_way, ways}

-- what holds is what the variables are given
provided_is : (t : Bool) (env grown : Bindings) → provided t env ≡ Some grown → env ≡ grown
provided_is true env grown e = cc
provided_is false env grown e = absurd (cc)

variable_given : (x : List ℕ) (v : Value) (env grown : Bindings) → after_variable x v env ≡ Some grown → given_to x v env ≡ grown
variable_given x v env grown e = provided_is (agree_one v env x) (given_to x v env) grown (sym (variable_step x v env) ∙ e)

test_given : (negated : Bool) (t : Test) (v : Value) (env grown : Bindings) → after_test negated t v env ≡ Some grown → given_to_all (binder negated t) v env ≡ grown
test_given false (variable x) v env grown e = variable_given x v env grown e
test_given false (constant w) v env grown e = provided_is (opposite_if false (test_holds (constant w) v env)) env grown e
test_given false (predicate t) v env grown e = provided_is (opposite_if false (test_holds (predicate t) v env)) env grown e
test_given false (return_value t) v env grown e = provided_is (opposite_if false (test_holds (return_value t) v env)) env grown e
test_given true (variable x) v env grown e = provided_is (opposite_if true (test_holds (variable x) v env)) env grown e
test_given true (constant w) v env grown e = provided_is (opposite_if true (test_holds (constant w) v env)) env grown e
test_given true (predicate t) v env grown e = provided_is (opposite_if true (test_holds (predicate t) v env)) env grown e
test_given true (return_value t) v env grown e = provided_is (opposite_if true (test_holds (return_value t) v env)) env grown e

given_both : (xs ys : List (List ℕ)) (v : Value) (env : Bindings) → given_to_all (xs ++ ys) v env ≡ given_to_all ys v (given_to_all xs v env)
given_both [] ys v env = refl
given_both (x ∷ xs) ys v env = given_both xs ys v (given_to x v env)

checks_given : (cs : List Check) (v : Value) (env grown : Bindings) → after_checks cs v env ≡ Some grown → given_to_all (binders_of cs) v env ≡ grown
checks_given [] v env grown e = cc
checks_given (c ∷ cs) v env grown e =
    let mid = then_some (after_checks cs v) (after_check c v env) grown e in
    given_both (binder c.negated c.test) (binders_of cs) v env
    ∙ (ap (given_to_all (binders_of cs) v) (test_given c.negated c.test v env mid.0 mid.1) ∙ checks_given cs v mid.0 grown mid.2)

pub demand_given : (d : Demand) (v : Value) (env grown : Bindings) → after_demand d v env ≡ Some grown → given_to_all (binders d) v env ≡ grown
demand_given nothing v env grown e = cc
demand_given (each cs) v env grown e = checks_given cs v env grown e
demand_given (either None alternatives) v env grown e = provided_is (one_holds alternatives v env) env grown e
demand_given (either (Some x) alternatives) v env grown e =
    let mid = then_some (λ it. provided (one_holds alternatives v it) it) (after_variable x v env) grown e in
    variable_given x v env mid.0 mid.1 ∙ provided_is (one_holds alternatives v mid.0) mid.0 grown mid.2

-- the variable has a value
abbrev pub has_value : List ℕ → Bindings → Bool
has_value x env = is_some (value_at x env.variables)

-- values stay, and these get some that had none
abbrev pub Step : List (List ℕ) → Bindings → Bindings → Type 0
Step names before after =
    ((x : List ℕ) (v : Value) → value_at x before.variables ≡ Some v → value_at x after.variables ≡ Some v)
    × ((x : List ℕ) → has_value x after ≡ has_value x before || is_named x names)

or_false : (a : Bool) → a ≡ a || false
or_false true = refl
or_false false = refl

or_or : (a b c : Bool) → (a || b) || c ≡ a || (b || c)
or_or true b c = refl
or_or false b c = refl

no_step : (before after : Bindings) → before ≡ after → Step [] before after
no_step before after e = subst (Step [] before) e ((λ x v is. is), (λ x. or_false (has_value x before)))

both_steps : (xs ys : List (List ℕ)) (a b c : Bindings) → Step xs a b → Step ys b c → Step (xs ++ ys) a c
both_steps xs ys a b c h i = (
  (λ x v e. i.0 x v (h.0 x v e)),
  (λ x. i.1 x ∙ (ap (λ t. t || is_named x ys) (h.1 x) ∙ (or_or (has_value x a) (is_named x xs) (is_named x ys) ∙ ap (λ t. has_value x a || t) (sym (named_append x xs ys))))),
)

given_step : (xs : List (List ℕ)) (v : Value) (env : Bindings) → Step xs env (given_to_all xs v env)
given_step xs v env = (
  (λ x w e. after_several x xs v env ∙ ap (λ o. option_or o (if_so (is_named x xs) v)) e),
  (λ x. ap is_some (after_several x xs v env) ∙ by (value_at x env.variables) (is_named x xs)),
)
  where
    by : (o : Option Value) (t : Bool) → is_some (option_or o (if_so t v)) ≡ is_some o || t
    by (Some w) t = refl
    by None true = refl
    by None false = refl

demand_step : (d : Demand) (v : Value) (env grown : Bindings) → after_demand d v env ≡ Some grown → Step (binders d) env grown
demand_step d v env grown e = subst (Step (binders d) env) (demand_given d v env grown e) (given_step (binders d) v env)

turn_step : (cs : List Constraint) (ss : List (List Single)) (before after : Bindings) → HoldInTurn cs ss before after → Step (binders_in cs) before after
turn_step [] [] before after h = no_step before after h
turn_step [] (s ∷ ss) before after h = absurd h
turn_step (c ∷ cs) [] before after h = absurd h
turn_step (c ∷ cs) (s ∷ ss) before after h =
    let it = then_some (λ v. after_demand c.demand v before) (segment_value c.segment s) h.0 h.1 in
    both_steps (binders c.demand) (binders_in cs) before h.0 after (demand_step c.demand it.0 before h.0 it.2) (turn_step cs ss h.0 after h.2)

slots_step : (ss : List SlotValue) (slots : List (List ℕ × Value)) (cuts : List ℕ) (before after : Bindings) → SlotsFit ss slots cuts before after
    → Step (binders_in (flat_map (λ s. s.row) ss)) before after
slots_step [] slots cuts before after h = no_step before after h.1
slots_step (s ∷ ss) slots cuts before after (v, own, others, grown, is, joined, first, more) =
    subst (λ names. Step names before after) (sym (flat_map-append (λ c. binders c.demand) s.row (flat_map (λ t. t.row) ss)))
    (both_steps (binders_in s.row) (binders_in (flat_map (λ t. t.row) ss)) before grown after (turn_step s.row first.0 before grown first.3) (slots_step ss slots others grown after more))

parts_step : (p : PatternParts) (content : FactContent) (cuts : List ℕ) (before after : Bindings) → PartsFit p content cuts before after → Step (binders_in (constraints_in p)) before after
parts_step (pattern.fields row) (fact.fields fs) cuts before after h = turn_step row h.0 before after h.3
parts_step (pattern.fields row) (fact.slots ss) cuts before after h = absurd h
parts_step (pattern.slots rows) (fact.fields fs) cuts before after h = absurd h
parts_step (pattern.slots rows) (fact.slots ss) cuts before after h = slots_step rows ss cuts before after h

-- a test and what it says
pub some_is : (o : Option Value) → (o ≢ None) ↔ (is_some o ≡ true)
some_is None = (λ h. absurd (h refl), λ e. absurd (cc))
some_is (Some v) = (λ h. refl, λ e d. apart d)
  where
    apart : Some v ≡ None → ⊥
    apart d = cc

contained_named : (xs : List (List ℕ)) (x : List ℕ) → is_named x xs ≡ true → Contains xs x
contained_named [] x e = absurd (cc)
contained_named (y ∷ ys) x e = by (contained_named ys x) (bytes_eq x y) (bytes_decides x y).0 e
  where
    by : (is_named x ys ≡ true → Contains ys x) → (t : Bool) → (t ≡ true → x ≡ y) → t || is_named x ys ≡ true → Contains (y ∷ ys) x
    by more true same d = (zero, omega arith, sym (same refl))
    by more false same d = let at = more d in let lt = at.1 in (suc at.0, omega arith, at.2)

-- ways, and what variables have after them
module _ (fitting : (p : PatternValue) (f : FactValue) (before : Bindings) (w : WayValue) → Contains (ways p f before) w → (after : Bindings) × (Fits p f w.cuts before after) × (w ≡ taken_way p before w.cuts after))
    (given : (p : PatternValue) (f : FactValue) (cuts : List ℕ) (before after : Bindings) → Fits p f cuts before after → with_variables (newly_bound p.parts before after) before ≡ after)
    (p : PatternValue) (f : FactValue) (before : Bindings) (w : WayValue) (i : Contains (ways p f before) w) where
  pub way_step : Step (bound_names p) before (with_variables w.bound before)
  way_step =
      let fits = fitting p f before w i in
      subst (Step (bound_names p) before) (sym (ap (λ (u : WayValue). with_variables u.bound before) fits.2 ∙ given p f w.cuts before fits.0 fits.1))
      (parts_step p.parts f.content w.cuts before fits.0 fits.1.1)

  pub way_has : (x : List ℕ) → (value_at x (with_variables w.bound before).variables ≢ None) ↔ ((value_at x before.variables ≢ None) ⊎ Contains (bound_names p) x)
  way_has x = (
    λ some. from (or_cases (has_value x before) (is_named x (bound_names p)) (sym (way_step.1 x) ∙ (some_is (value_at x (with_variables w.bound before).variables)).0 some)),
    λ either. (some_is (value_at x (with_variables w.bound before).variables)).1 (way_step.1 x ∙ to either),
  )
    where
      from : (has_value x before ≡ true) ⊎ (is_named x (bound_names p) ≡ true) → (value_at x before.variables ≢ None) ⊎ Contains (bound_names p) x
      from (inl e) = inl ((some_is (value_at x before.variables)).1 e)
      from (inr e) = inr (contained_named (bound_names p) x e)

      or_right : (a : Bool) → a || true ≡ true
      or_right true = refl
      or_right false = refl

      to : (value_at x before.variables ≢ None) ⊎ Contains (bound_names p) x → has_value x before || is_named x (bound_names p) ≡ true
      to (inl some) = ap (λ t. t || is_named x (bound_names p)) ((some_is (value_at x before.variables)).0 some)
      to (inr j) = ap (λ t. has_value x before || t) (named_contained (bound_names p) x j) ∙ or_right (has_value x before)
