-- Which variables constraints may give a value.
use Rattle.std.specs.Prelude.{ℕ, Bool, false, List, [], ◌∷◌, Some, None, flat_map}
use Rattle.cb_constraints.specs.Constraints.{Test, variable, Check, Demand, nothing, each, either, Constraint}
use Rattle.cb_constraints.specs.PatternValues.{PatternParts, fields, slots}

-- the variable that a check without `~` may give a value
abbrev pub binder : Bool → Test → List (List ℕ)
binder false (variable x) = x ∷ []
binder negated t = []

-- The variables that checks may give values.
abbrev pub binders_of : List Check → List (List ℕ)
binders_of cs = flat_map (λ c. binder c.negated c.test) cs

-- the variables that a constraint may give a value
abbrev pub binders : Demand → List (List ℕ)
binders nothing = []
binders (each cs) = binders_of cs
binders (either None alternatives) = []
binders (either (Some x) alternatives) = x ∷ []

-- The variables that constraints may give values.
abbrev pub binders_in : List Constraint → List (List ℕ)
binders_in cs = flat_map (λ c. binders c.demand) cs

-- the constraints of a pattern, in the order in which they are written
abbrev pub constraints_in : PatternParts → List Constraint
constraints_in (fields row) = row
constraints_in (slots rows) = flat_map (λ s. s.row) rows
