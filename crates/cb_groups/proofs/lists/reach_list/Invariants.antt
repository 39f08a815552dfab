use Rattle.std.proofs.Common.{◌≡◌, ℕ, length}
use Rattle.cb_groups.specs.Internal.{members_at}
use Rattle.cb_groups.proofs.lists.reach_list.Given as goal

abbrev pub invariant-loop-turn : goal.invariant-loop-turn
invariant-loop-turn l = (length l.lists.items ≡ l._turn) × ((h : ℕ) → members_at l.lists.items h ≡ members_at l.initial.lists.items h)
