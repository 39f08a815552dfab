use Rattle.std.proofs.Common.{◌≡◌, drop, map}
use Rattle.cb_constraints.specs.PartValues.{asked_slot}
use Rattle.cb_fit.specs.Internal.{may_take_slots}
use Rattle.cb_fit.proofs.slots.may_take_slots.Given as goal

abbrev pub invariant-loop-row : goal.invariant-loop-row
invariant-loop-row l = may_take_slots (map asked_slot (drop l.row-index l.rows)) l.slots ≡ may_take_slots (map asked_slot l.rows) l.slots
