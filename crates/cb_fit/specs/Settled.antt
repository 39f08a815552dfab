-- Expressions that can be evaluated behind a pattern as well as at their place in it.
use Rattle.std.specs.Prelude.{◌&&◌, ◌||◌, ℕ, Bool, true, false, not, List}
use Rattle.cb_exprs.specs.Terms.{Term, constant, variable, global, call, effect, choose, repeat, actions, Terms, no_terms, term}
use Rattle.cb_fit.specs.Plain.{is_named}

abbrev mutual
  -- Each variable of the expression has the same value at its place as behind a pattern that may give values to these names: it is the
  -- field's own, or one of those that stand in a field before, or none that the pattern may give a value. An expression with an effect
  -- has no value here, and is none of these.
  pub is_settled : List (List ℕ) → List (List ℕ) → List (List ℕ) → Term → Bool
  is_settled names before own (constant v) = true
  is_settled names before own (variable x) = (is_named x own || is_named x before) || not (is_named x names)
  is_settled names before own (global x) = true
  is_settled names before own (call f ts) = are_settled names before own ts
  is_settled names before own (effect e ts) = false
  is_settled names before own (choose t u w) = false
  is_settled names before own (repeat t u) = false
  is_settled names before own (actions ts) = false

  -- The same of several expressions.
  pub are_settled : List (List ℕ) → List (List ℕ) → List (List ℕ) → Terms → Bool
  are_settled names before own no_terms = true
  are_settled names before own (term t ts) = is_settled names before own t && are_settled names before own ts
