-- Patterns that ask each field for constants alone.
use Rattle.std.specs.Prelude.{◌&&◌, Bool, false}
use Rattle.std.specs.List.{list_all}
use Rattle.cb_constraints.specs.PatternValues.{PatternParts, SlotValue}
use Rattle.cb_constraints.specs.PatternValues as pattern
use Rattle.cb_facts.specs.Facts.{FactContent}
use Rattle.cb_facts.specs.Facts as fact
use Rattle.cb_fit.specs.Internal.{are_ones, may_take_row, may_take_slots}
use Rattle.cb_fit.specs.StandsAlone.{parts_alone}

-- the constraints for a slot take one field each
abbrev pub slot_takes_ones : SlotValue → Bool
slot_takes_ones s = are_ones s.row

-- all constraints take one field each
abbrev pub parts_take_ones : PatternParts → Bool
parts_take_ones (pattern.fields row) = are_ones row
parts_take_ones (pattern.slots rows) = list_all slot_takes_ones rows

-- what a pattern asks is plain: each constraint takes one field, and has no variable and no expression
abbrev pub are_plain : PatternParts → Bool
are_plain p = parts_take_ones p && parts_alone p

-- a pattern may take the content of a fact, by its lengths and constants
abbrev pub may_take_parts : PatternParts → FactContent → Bool
may_take_parts (pattern.fields row) (fact.fields fs) = may_take_row row fs
may_take_parts (pattern.slots rows) (fact.slots ss) = may_take_slots rows ss
may_take_parts parts content = false
