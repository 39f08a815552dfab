-- What a change leaves of a list of tokens, and what a list of tokens is between changes.
use Rattle.std.specs.Prelude.{◌≡◌, ◌⊎◌, ℕ, List, [], Some}
use Rattle.cb_beta.specs.BetaMemories.{BetaMemoryValue, live}
use Rattle.cb_beta.specs.Tokens.{TokenValue, token_at}
use Rattle.cb_matches.specs.Chains.{In}
use Rattle.cb_matches.specs.Matches.{Partial}
use Rattle.cb_token_lists.specs.Turns.{IsReadable, IsThere, StandFor, WasThere}

-- what could be read can be read, what can be read could or came, and what was there when the change began is the same
pub record KeepsTokens (old new : BetaMemoryValue) : Type 0 where
  pub tokens : (i : ℕ) (t : TokenValue) → token_at old.tokens i ≡ Some t → token_at new.tokens i ≡ Some t
  pub only : (i : ℕ) → IsReadable new i → IsReadable old i ⊎ In i new.come
  pub was : (i : ℕ) → WasThere old i → WasThere new i
  pub was_only : (i : ℕ) → WasThere new i → WasThere old i

-- the same tokens are there, and no more can be read
pub record HasSameTokens (old new : BetaMemoryValue) : Type 0 where
  pub live : (i : ℕ) → live new i ≡ live old i
  pub readable : (i : ℕ) (t : TokenValue) → token_at new.tokens i ≡ Some t → token_at old.tokens i ≡ Some t

-- the same numbers are there, and stand for the same partial matches
pub record AreAlike (at at' : ℕ → Partial) (There There' : ℕ → Type 0) : Type 0 where
  pub to : (i : ℕ) → There i → There' i
  pub from : (i : ℕ) → There' i → There i
  pub same : (i : ℕ) → There i → at i ≡ at' i

-- between changes: the tokens stand for the partial matches of a list, no two for the same parts, and nothing went or came
pub record Rests (at : ℕ → Partial) (m : BetaMemoryValue) (ms : List Partial) : Type 0 where
  pub is : StandFor at (IsThere m) ms
  pub one : (i j : ℕ) → IsThere m i → IsThere m j → (at i).parts ≡ (at j).parts → i ≡ j
  pub none_gone : m.gone ≡ []
  pub none_come : m.come ≡ []
