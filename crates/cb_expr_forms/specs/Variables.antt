-- The variables of an expression.
use Rattle.std.specs.Prelude.{ℕ, List, [], ◌∷◌, ◌++◌}
use Rattle.cb_exprs.specs.declared.effect.Effect.{Effect}
use Rattle.cb_exprs.specs.declared.effect.Effect.TheVariants as kind
use Rattle.cb_exprs.specs.Terms.{Term, constant, variable, global, call, effect, choose, repeat, actions, Terms, no_terms, term}

-- the variable that a call with an effect binds
abbrev pub bound_by : Effect → List (List ℕ)
bound_by (kind.Bind x) = x ∷ []
bound_by e = []

abbrev mutual
  -- The variables of an expression, in the order in which they stand, each as often as it does; globals are not
  -- among them.
  pub variables_of : Term → List (List ℕ)
  variables_of (constant v) = []
  variables_of (variable x) = x ∷ []
  variables_of (global x) = []
  variables_of (call f ts) = variables_in ts
  variables_of (effect e ts) = bound_by e ++ variables_in ts
  variables_of (choose t u w) = variables_of t ++ (variables_of u ++ variables_of w)
  variables_of (repeat t u) = variables_of t ++ variables_of u
  variables_of (actions ts) = variables_in ts

  -- The variables of several expressions.
  pub variables_in : Terms → List (List ℕ)
  variables_in no_terms = []
  variables_in (term t ts) = variables_of t ++ variables_in ts
