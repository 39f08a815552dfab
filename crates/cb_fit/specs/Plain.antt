-- Tests for constants and variables alone, and the names in a pattern.
use Rattle.std.specs.Prelude.{◌&&◌, ℕ, Bool, true, false, not, List, [], ◌∷◌}
use Rattle.std.specs.List.{list_any}
use Rattle.std.specs.Str.{bytes_eq}
use Rattle.cb_constraints.specs.Binders.{binders_in, constraints_in}
use Rattle.cb_constraints.specs.Constraints.{Test, constant, variable, predicate, return_value}
use Rattle.cb_constraints.specs.PatternValues.{PatternValue}

-- a test for a constant, with `~` or without, or for a variable without `~`
abbrev pub is_plain_test : Bool → Test → Bool
is_plain_test negated (constant v) = true
is_plain_test true (variable x) = false
is_plain_test false (variable x) = true
is_plain_test negated (predicate t) = false
is_plain_test negated (return_value t) = false

-- the name is one of these
abbrev pub is_named : List ℕ → List (List ℕ) → Bool
is_named x names = list_any (bytes_eq x) names

-- no name stands twice
abbrev pub are_apart : List (List ℕ) → Bool
are_apart [] = true
are_apart (x ∷ names) = not (is_named x names) && are_apart names

-- the variables that a pattern may give values
abbrev pub bound_names : PatternValue → List (List ℕ)
bound_names p = binders_in (constraints_in p.parts)
