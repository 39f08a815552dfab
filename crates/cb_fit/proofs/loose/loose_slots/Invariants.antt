use Rattle.std.proofs.Common.{◌≡◌, ◌++◌, drop, map}
use Rattle.cb_constraints.specs.PartValues.{asked_slot}
use Rattle.cb_fit.proofs.loose.loose_slots.Given as goal
use Rattle.cb_fit.specs.Shapes.{loose_slot}

abbrev pub invariant-loop-slot : goal.invariant-loop-slot
invariant-loop-slot l = map asked_slot l.loose.items ++ map loose_slot (map asked_slot (drop l.slot-index l.rows)) ≡ map loose_slot (map asked_slot l.rows)
