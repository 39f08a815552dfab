use Rattle.std.proofs.Common.{◌≢◌, ◌<◌, ◌≤◌, ℕ, None, get_or, length}
use Rattle.cb_number_map.specs.Slots.{first_slot, number_of, unused}
use Rattle.cb_number_map.proofs.slots.free_slot.Given as goal

abbrev pub invariant-loop-index : goal.invariant-loop-index
invariant-loop-index l = (j : ℕ) → first_slot l.key (length l.slots) ≤ j → j < l.index → number_of (get_or l.slots j unused) ≢ None
