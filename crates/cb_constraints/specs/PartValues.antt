-- What the `PatternParts` of the program ask.
use Rattle.std.specs.Prelude.{map}
use Rattle.cb_constraints.specs.PatternValues.{PatternParts, fields, slots, SlotValue}
use Rattle.cb_constraints.specs.declared.pattern_parts.PatternParts as program
use Rattle.cb_constraints.specs.declared.pattern_parts.PatternParts.TheVariants as parts
use Rattle.cb_constraints.specs.declared.pattern_parts.SlotRow.{SlotRow}

-- The slot of a pattern that a value of the program is.
abbrev pub asked_slot : SlotRow → SlotValue
asked_slot slot = record { name = slot.name; place = slot.place; row = slot.row }

-- The row or the slots that a pattern of the program has.
abbrev pub asked_parts : program.PatternParts → PatternParts
asked_parts (parts.Fields row) = fields row
asked_parts (parts.Slots rows) = slots (map asked_slot rows.items)
