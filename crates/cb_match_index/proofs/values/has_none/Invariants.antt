use Rattle.std.proofs.Common.{◌≡◌, ◌<◌, ℕ, None}
use Rattle.cb_match_index.specs.Internal.{value_at}
use Rattle.cb_match_index.proofs.values.has_none.Given as goal

abbrev pub invariant-loop-value : goal.invariant-loop-value
invariant-loop-value l = (j : ℕ) → j < l.value-index → value_at l.values.items j ≡ None
