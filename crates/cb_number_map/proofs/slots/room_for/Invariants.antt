use Rattle.std.proofs.Common.{◌≡◌, ◌≢◌, ◌<◌, ◌≤◌, ℕ, IfSome, None, get_or, length}
use Rattle.cb_number_map.specs.Slots.{IsFirstFree, first_slot, number_for, number_of, unused}
use Rattle.cb_number_map.proofs.slots.room_for.Given as goal

abbrev pub invariant-loop-index : goal.invariant-loop-index
invariant-loop-index l = record {
  absent : (j : ℕ) → first_slot l.key (length l.slots) ≤ j → j < l.index → number_for l.key (get_or l.slots j unused) ≡ None;
  room : IfSome l.room (IsFirstFree l.slots l.key);
  taken : l.room ≡ None → (j : ℕ) → first_slot l.key (length l.slots) ≤ j → j < l.index → number_of (get_or l.slots j unused) ≢ None;
}
