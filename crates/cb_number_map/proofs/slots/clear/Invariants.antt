use Rattle.std.proofs.Common.{◌≡◌, ◌≢◌, ◌<◌, ◌≤◌, ℕ, None, get_or, length}
use Rattle.cb_number_map.specs.Slots.{WindowsEndAtUnused, first_slot, number_for, number_in, unused}
use Rattle.cb_number_map.proofs.slots.clear.Given as goal

abbrev pub invariant-loop-index : goal.invariant-loop-index
invariant-loop-index l = record {
  end : WindowsEndAtUnused l.slots;
  others : (other : ℕ) → other ≢ l.key → number_in l.slots other ≡ number_in l.initial.slots other;
  cleared : (j : ℕ) → first_slot l.key (length l.initial.slots) ≤ j → j < l.index → number_for l.key (get_or l.slots j unused) ≡ None;
}
