use Rattle.std.proofs.Common.{◌≡◌, ℕ, length}
use Rattle.cb_groups.specs.Internal.{standing}
use Rattle.cb_groups.proofs.lists.reach_place.Given as goal

abbrev pub invariant-loop-turn : goal.invariant-loop-turn
invariant-loop-turn l = (length l.places.items ≡ l._turn) × ((m : ℕ) → standing l.places.items m ≡ standing l.initial.places.items m)
