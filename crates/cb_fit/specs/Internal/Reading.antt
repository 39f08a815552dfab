-- What the code reads of a pattern.
use Rattle.std.specs.Prelude.{◌&&◌, ℕ, Bool, List, flat_map, map}
use Rattle.std.specs.Global.{Vec}
use Rattle.cb_constraints.specs.Constraints.{Check, Constraint, check_of}
use Rattle.cb_constraints.specs.Binders.{binders_of}
use Rattle.cb_constraints.specs.PartValues.{asked_slot}
use Rattle.cb_constraints.specs.PatternValues.{SlotValue}
use Rattle.cb_constraints.specs.declared.constraint.Check as program_check
use Rattle.cb_constraints.specs.declared.pattern_parts.SlotRow.{SlotRow}
use Rattle.cb_fit.specs.Comparisons.{WithConstant, WithVariable, compares_others, is_decided_constraint}
use Rattle.cb_fit.specs.declared.checks.Compared.{Compared}
use Rattle.cb_fit.specs.declared.checks.Limit.{Limit}

-- the comparison that a `Compared` of the program is
abbrev pub compared_of : Compared → WithVariable
compared_of c = (c.comparison, c.variable.now)

-- the comparison that a `Limit` of the program is
abbrev pub limit_of : Limit → WithConstant
limit_of l = (l.comparison, l.constant.now)

-- the variables that checks of the program may give values
abbrev pub own_of : List program_check.Check → List (List ℕ)
own_of checks = binders_of (map check_of checks)

-- the alternatives that those of the program are
abbrev pub alternatives_of : List (Vec program_check.Check) → List (List Check)
alternatives_of alternatives = map (λ cs. map check_of cs.items) alternatives

-- a constraint is decided by values, and compares its field with other variables than its own
abbrev pub is_decided_alone : Constraint → Bool
is_decided_alone c = is_decided_constraint c && compares_others c

-- the constraints of the rows of slots
abbrev pub rows_of : List SlotRow → List Constraint
rows_of rows = flat_map (λ (s : SlotValue). s.row) (map asked_slot rows)
