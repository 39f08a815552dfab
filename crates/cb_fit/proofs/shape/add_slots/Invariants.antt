use Rattle.std.proofs.Common.{◌≡◌, ◌++◌, drop, flat_map, map}
use Rattle.cb_constraints.specs.PartValues.{asked_slot}
use Rattle.cb_fit.proofs.shape.add_slots.Given as goal
use Rattle.cb_fit.specs.ShapeKeys.{slot_pieces}

abbrev pub invariant-loop-slot : goal.invariant-loop-slot
invariant-loop-slot l =
    l.all.items ++ flat_map slot_pieces (map asked_slot (drop l.slot-index l.rows)) ≡ l.fn.all.items ++ flat_map slot_pieces (map asked_slot l.rows)
