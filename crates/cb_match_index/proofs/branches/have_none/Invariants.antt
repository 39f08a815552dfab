use Rattle.std.proofs.Common.{◌≡◌, ◌<◌, ℕ, None}
use Rattle.cb_match_index.specs.Internal.{value_at, values_of}
use Rattle.cb_match_index.proofs.branches.have_none.Given as goal

abbrev pub invariant-loop-values : goal.invariant-loop-values
invariant-loop-values l = (b : ℕ) → b < l.values-index → (n : ℕ) → value_at (values_of l.branches.items b) n ≡ None
