use Rattle.std.proofs.Common.{◌≡◌, ◌<◌, ℕ, None, get_or}
use Rattle.cb_number_map.specs.Slots.{number_of, unused}
use Rattle.cb_number_map.proofs.slots.are_free.Given as goal

abbrev pub invariant-loop-slot : goal.invariant-loop-slot
invariant-loop-slot l = (j : ℕ) → j < l.slot-index → number_of (get_or l.slots j unused) ≡ None
