-- The list at the end of a branch.
use Rattle.std.proofs.Common.{◌≡◌, ◌∙◌, List, ℕ, Some, slice_get, sym}
use Rattle.cb_beta.specs.BetaMemories.{BetaMemoryValue}

-- there is one
pub same_list : (lists : List BetaMemoryValue) (last : ℕ) (m m' : BetaMemoryValue) → slice_get lists last ≡ Some m → slice_get lists last ≡ Some m' → m ≡ m'
same_list lists last m m' e f = let both : Some m ≡ Some m' = sym e ∙ f in cc
