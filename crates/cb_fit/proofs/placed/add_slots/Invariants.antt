use Rattle.std.proofs.Common.{◌≡◌, ◌++◌, drop, map}
use Rattle.std.specs.List.{flat_map}
use Rattle.cb_constraints.specs.PartValues.{asked_slot}
use Rattle.cb_fit.proofs.placed.add_slots.Given as goal
use Rattle.cb_fit.specs.FieldPlaces.{slot_demands}
use Rattle.cb_fit.specs.Internal.Placed.{placed_of}

abbrev pub invariant-loop-slot : goal.invariant-loop-slot
invariant-loop-slot l =
    map placed_of l.all.items ++ flat_map slot_demands (map asked_slot (drop l.slot-index l.rows)) ≡ map placed_of l.fn.all.items ++ flat_map slot_demands (map asked_slot l.rows)
