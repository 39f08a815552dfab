use Rattle.std.proofs.Common.{◌≡◌, ℕ, length}
use Rattle.cb_match_index.specs.Internal.{values_of}
use Rattle.cb_match_index.proofs.branches.reach_branch.Given as goal

abbrev pub invariant-loop-turn : goal.invariant-loop-turn
invariant-loop-turn l = (length l.branches.items ≡ l._turn) × ((b : ℕ) → values_of l.branches.items b ≡ values_of l.initial.branches.items b)
