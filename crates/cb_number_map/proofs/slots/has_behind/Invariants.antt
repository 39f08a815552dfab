use Rattle.std.proofs.Common.{◌≡◌, ◌<◌, ◌≤◌, ℕ, None, get_or, length}
use Rattle.cb_number_map.specs.Slots.{first_slot, number_for, unused}
use Rattle.cb_number_map.proofs.slots.has_behind.Given as goal

abbrev pub invariant-loop-behind : goal.invariant-loop-behind
invariant-loop-behind l = (key j : ℕ) → first_slot key (length l.slots) ≤ l.index → l.index < j → j < l.behind → number_for key (get_or l.slots j unused) ≡ None
