-- What can be read in a list of tokens.
use Rattle.std.proofs.Common.{◌≡◌, ◌⊎◌, ℕ, List, Some, inl, inr}
use Rattle.cb_beta.proofs.Live.{live_token}
use Rattle.cb_beta.proofs.Members.{by_in}
use Rattle.cb_beta.specs.BetaMemories.{BetaMemoryValue, live}
use Rattle.cb_beta.specs.Tokens.{TokenValue, token_at}
use Rattle.cb_matches.specs.Chains.{In}
use Rattle.cb_matches.specs.Matches.{Partial}
use Rattle.cb_token_lists.specs.Turns.{IsReadable, Turns}

-- what is there can be read
pub live_read : (m : BetaMemoryValue) (i : ℕ) (t : TokenValue) → live m i ≡ Some t → token_at m.tokens i ≡ Some t
live_read m i t e = (live_token m.tokens m.gone i t e).1

-- what can be read in a list that turned stands for one of what was or of what is
pub read_is : (at : ℕ → Partial) (m : BetaMemoryValue) (old new : List Partial) → Turns at m old new → (i : ℕ) → IsReadable m i → In (at i) old ⊎ In (at i) new
read_is at m old new turns i h = elim (by_in i m.come) as (λ _. In (at i) old ⊎ In (at i) new) [
  | inl k ↦ inr (turns.is.to i (turns.came i k))
  | inr n ↦ inl (turns.was.to i (h, n))
]
