-- Patterns that ask by constants and lengths alone.
use Rattle.std.specs.Prelude.{Bool, true, false, List, Some, None}
use Rattle.std.specs.List.{list_all}
use Rattle.cb_constraints.specs.Constraints.{Check, Demand, nothing, each, either, Constraint}
use Rattle.cb_constraints.specs.Holding.{is_constant}
use Rattle.cb_constraints.specs.PatternValues.{PatternParts, fields, slots, PatternValue, SlotValue}

-- checks for constants, each of them
abbrev pub are_constants : List Check → Bool
are_constants cs = list_all (λ c. is_constant c.test) cs

-- what a constraint asks has no variable and no expression
abbrev pub demand_alone : Demand → Bool
demand_alone nothing = true
demand_alone (each cs) = are_constants cs
demand_alone (either None alternatives) = list_all are_constants alternatives
demand_alone (either (Some x) alternatives) = false

-- No constraint of a row has one.
abbrev pub row_alone : List Constraint → Bool
row_alone row = list_all (λ c. demand_alone c.demand) row

-- The same of what a pattern asks of a slot.
abbrev pub slot_alone : SlotValue → Bool
slot_alone s = row_alone s.row

-- The same of what a pattern asks.
abbrev pub parts_alone : PatternParts → Bool
parts_alone (fields row) = row_alone row
parts_alone (slots rows) = list_all slot_alone rows

-- A pattern stands alone where no constraint of it has a variable or an expression: whether it fits a fact doesn't depend on what
-- variables have, and it gives none a value.
abbrev pub stands_alone : PatternValue → Bool
stands_alone p = parts_alone p.parts
