-- The variables to which a way gives values.
use Rattle.std.specs.Prelude.{ℕ, not, List, [], ◌∷◌, Option, Some, None, filter, flat_map}
use Rattle.std.specs.Str.{bytes_eq}
use Rattle.cb_constraints.specs.Binders.{binders_in, constraints_in}
use Rattle.cb_constraints.specs.PatternValues.{PatternParts}
use Rattle.cb_exprs.specs.Bindings.{Bindings, value_at}
use Rattle.cb_facts.specs.declared.value.Value.{Value}

-- these names, each once: of equal ones the first is kept
abbrev pub each_once : List (List ℕ) → List (List ℕ)
each_once [] = []
each_once (x ∷ names) = x ∷ filter (λ y. not (bytes_eq x y)) (each_once names)

-- A name with a value, if there was none before and there is one now.
abbrev pub given_if : List ℕ → Option Value → Option Value → List (List ℕ × Value)
given_if x None (Some v) = (x, v) ∷ []
given_if x old now = []

-- a variable with its value, if it has none before and one after
abbrev pub given : Bindings → Bindings → List ℕ → List (List ℕ × Value)
given before after x = given_if x (value_at x before.variables) (value_at x after.variables)

-- the variables of a pattern that have no value before and have one after, each once, in the order in which they are written
abbrev pub newly_bound : PatternParts → Bindings → Bindings → List (List ℕ × Value)
newly_bound parts before after = flat_map (given before after) (each_once (binders_in (constraints_in parts)))
