use Rattle.std.proofs.Common.{◌≡◌, drop, map}
use Rattle.std.specs.List.{list_all}
use Rattle.cb_constraints.specs.PartValues.{asked_slot}
use Rattle.cb_fit.specs.StandsAlone.{slot_alone}
use Rattle.cb_fit.proofs.standing_alone.slots_alone.Given as goal

abbrev pub invariant-loop-slot : goal.invariant-loop-slot
invariant-loop-slot l = list_all slot_alone (map asked_slot (drop l.slot-index l.rows)) ≡ list_all slot_alone (map asked_slot l.rows)
