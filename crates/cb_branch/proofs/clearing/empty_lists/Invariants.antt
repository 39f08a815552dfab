use Rattle.std.proofs.Common.{◌≡◌, ℕ, Some, length, slice_get}
use Rattle.cb_beta.specs.BetaMemories.{BetaMemoryValue}
use Rattle.cb_branch.proofs.clearing.empty_lists.Given as goal
use Rattle.cb_branch.specs.Nodes.{no_tokens}

abbrev pub invariant-loop-list : goal.invariant-loop-list
invariant-loop-list l = record {
  long : length l.lists.items ≡ l._list;
  empty : (j : ℕ) (m : BetaMemoryValue) → slice_get l.lists.items j ≡ Some m → m ≡ no_tokens;
}
