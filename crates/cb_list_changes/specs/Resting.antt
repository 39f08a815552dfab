-- The lists of tokens of a branch between changes.
use Rattle.std.specs.Prelude.{◌≡◌, ◌≢◌, ◌≤◌, ℕ, suc, List, Some, length, slice_get}
use Rattle.cb_beta.specs.BetaMemories.{BetaMemoryValue, IsEnded}
use Rattle.cb_beta.specs.Tokens.{TokenValue, token_at}
use Rattle.cb_nodes.specs.Flat.{Lists}
use Rattle.cb_token_lists.specs.Keeping.{Rests}
use Rattle.cb_token_lists.specs.Partials.{AreBelow, SourceValue, partial_at, tokens_in}

-- each list goes on from one before it, and each token that can be read from one that can be read there
pub record AreRooted (sources : List SourceValue) (lists : List BetaMemoryValue) : Type 0 where
  pub below : AreBelow sources
  pub parents : (k i : ℕ) (s : SourceValue) (t : TokenValue) → slice_get sources k ≡ Some s → token_at (tokens_in lists (suc k)) i ≡ Some t
      → (u : TokenValue) × (token_at (tokens_in lists s.from) t.parent ≡ Some u)

-- between changes: each list of tokens stands for its list of partial matches
pub record AreResting (sources : List SourceValue) (lists : List BetaMemoryValue) (ls : Lists) : Type 0 where
  pub each : (j : ℕ) (m : BetaMemoryValue) → slice_get lists j ≡ Some m → Rests (partial_at sources lists j) m (ls j)
  pub rooted : AreRooted sources lists

-- the lists up to this number are the same
abbrev pub AgreeTo : ℕ → List BetaMemoryValue → List BetaMemoryValue → Type 0
AgreeTo k lists lists' = (j : ℕ) → j ≤ k → slice_get lists' j ≡ slice_get lists j

-- one list is another one now, and the others are those that they were
pub record IsPut (lists lists' : List BetaMemoryValue) (k : ℕ) (m : BetaMemoryValue) : Type 0 where
  pub long : length lists' ≡ length lists
  pub there : slice_get lists' k ≡ Some m
  pub others : (j : ℕ) → j ≢ k → slice_get lists' j ≡ slice_get lists j

-- the change ended in each list
pub record AreEnded (lists ended : List BetaMemoryValue) : Type 0 where
  pub long : length ended ≡ length lists
  pub each : (j : ℕ) (m m' : BetaMemoryValue) → slice_get lists j ≡ Some m → slice_get ended j ≡ Some m' → IsEnded m m'
