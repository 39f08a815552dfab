-- The relations that a rule names.
use Rattle.std.specs.Prelude.{◌++◌, ℕ, List, [], ◌∷◌}
use Rattle.std.specs.List.{flat_map}
use Rattle.cb_exprs.specs.Terms.{Term, constant, variable, global, call, effect, choose, repeat, actions, Terms, no_terms, term, terms}
use Rattle.cb_exprs.specs.declared.effect.Effect.{Effect}
use Rattle.cb_exprs.specs.declared.effect.Effect.TheVariants as kind
use Rattle.cb_constraints.specs.Bound.{each_once}
use Rattle.cb_rules.specs.Elements.{Element, pattern, test, group, Elements, no_elements, element}

-- the relation of the fact that a call with an effect asserts
abbrev pub asserted_with : Effect → List (List ℕ)
asserted_with (kind.Assert shape) = shape.relation ∷ []
asserted_with e = []

abbrev mutual
  -- those of the facts that an expression asserts, in the order in which they stand, each as often as it does
  pub asserted_by : Term → List (List ℕ)
  asserted_by (constant v) = []
  asserted_by (variable x) = []
  asserted_by (global x) = []
  asserted_by (call f ts) = asserted_in ts
  asserted_by (effect e ts) = asserted_with e ++ asserted_in ts
  asserted_by (choose t u w) = asserted_by t ++ (asserted_by u ++ asserted_by w)
  asserted_by (repeat t u) = asserted_by t ++ asserted_by u
  asserted_by (actions ts) = asserted_in ts

  -- The relations of the facts that several expressions assert, in order.
  pub asserted_in : Terms → List (List ℕ)
  asserted_in no_terms = []
  asserted_in (term t ts) = asserted_by t ++ asserted_in ts

abbrev mutual
  -- the relations of the patterns of an element
  pub pattern_relations : Element → List (List ℕ)
  pattern_relations (pattern x p) = p.relation ∷ []
  pattern_relations (test t) = []
  pattern_relations (group positive es) = patterns_relations es

  -- the same of elements, in the order in which they stand, each as often as it does
  pub patterns_relations : Elements → List (List ℕ)
  patterns_relations no_elements = []
  patterns_relations (element e es) = pattern_relations e ++ patterns_relations es

-- the relations that a rule with these branches and actions names: first those of its patterns, then those that it asserts
abbrev pub relations_of : List Elements → List Term → List (List ℕ)
relations_of branches steps = each_once (flat_map patterns_relations branches ++ asserted_in (terms steps))
