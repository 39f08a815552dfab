use Rattle.std.proofs.Common.{◌≡◌, drop, map}
use Rattle.cb_constraints.specs.PartValues.{asked_slot}
use Rattle.cb_fit.specs.Internal.{slots_take_lengths}
use Rattle.cb_fit.proofs.lengths.slots_take_lengths.Given as goal

abbrev pub invariant-loop-row : goal.invariant-loop-row
invariant-loop-row l = slots_take_lengths (map asked_slot (drop l.row-index l.rows)) l.slots ≡ slots_take_lengths (map asked_slot l.rows) l.slots
