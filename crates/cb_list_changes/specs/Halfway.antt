-- The lists of tokens of a branch in a change, in which one list after another turns.
use Rattle.std.specs.Prelude.{◌≡◌, ◌<◌, ◌≤◌, ℕ, suc, List, Some, length, slice_get}
use Rattle.cb_beta.specs.BetaMemories.{BetaMemoryValue, live}
use Rattle.cb_beta.specs.Tokens.{TokenValue, partial_after}
use Rattle.cb_list_changes.specs.Resting.{AreRooted}
use Rattle.cb_matches.specs.Matches.{Partial}
use Rattle.cb_nodes.specs.Flat.{Lists}
use Rattle.cb_token_lists.specs.Keeping.{KeepsTokens}
use Rattle.cb_token_lists.specs.Partials.{SourceValue, partial_at}
use Rattle.cb_token_lists.specs.Turns.{IsThere, Turns}

-- the lists up to number k have turned, and those behind it are as they were when the change began
pub record AreHalfway (sources : List SourceValue) (before lists : List BetaMemoryValue) (old new : Lists) (k : ℕ) : Type 0 where
  pub long : length lists ≡ length before
  pub turned : (j : ℕ) (m : BetaMemoryValue) → j ≤ k → slice_get lists j ≡ Some m → Turns (partial_at sources lists j) m (old j) (new j)
  pub keeps : (j : ℕ) (m m' : BetaMemoryValue) → slice_get before j ≡ Some m → slice_get lists j ≡ Some m' → KeepsTokens m m'
  pub others : (j : ℕ) → k < j → slice_get lists j ≡ slice_get before j
  pub rooted : AreRooted sources lists
  -- what is there in a list that has turned goes on from what is there in the list before
  pub parents : (j i : ℕ) (s : SourceValue) (from own : BetaMemoryValue) (t : TokenValue) → j < k → slice_get sources j ≡ Some s → slice_get lists s.from ≡ Some from
      → slice_get lists (suc j) ≡ Some own → live own i ≡ Some t → IsThere from t.parent

-- a node has changed the list behind it, where s says what it goes on from and `from` is the list before it
pub record IsStepped (sources : List SourceValue) (lists : List BetaMemoryValue) (s : SourceValue) (from own own' : BetaMemoryValue) (old new : List Partial) : Type 0 where
  pub turns : Turns (partial_after s.address own'.tokens (partial_at sources lists s.from)) own' old new
  pub keeps : KeepsTokens own own'
  pub parents : (i : ℕ) (t : TokenValue) → live own' i ≡ Some t → IsThere from t.parent
