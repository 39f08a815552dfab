use Rattle.std.proofs.Common.{◌≡◌, drop, map}
use Rattle.std.specs.List.{list_all}
use Rattle.cb_constraints.specs.PartValues.{asked_slot}
use Rattle.cb_fit.specs.Internal.PlainParts.{slot_takes_ones}
use Rattle.cb_fit.proofs.plain_parts.slots_take_ones.Given as goal

abbrev pub invariant-loop-slot : goal.invariant-loop-slot
invariant-loop-slot l = list_all slot_takes_ones (map asked_slot (drop l.slot-index l.rows)) ≡ list_all slot_takes_ones (map asked_slot l.rows)
