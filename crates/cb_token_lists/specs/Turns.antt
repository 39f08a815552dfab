-- A list of partial matches by number, before and after a change.
use Rattle.std.specs.Prelude.{◌≡◌, ◌≢◌, ℕ, zero, suc, List, [], ◌∷◌, Some, filter, is_some, length}
use Rattle.cb_beta.specs.BetaMemories.{BetaMemoryValue, live}
use Rattle.cb_beta.specs.Tokens.{TokenValue, token_at}
use Rattle.cb_matches.specs.Chains.{Chain, In}
use Rattle.cb_matches.specs.Matches.{Partial}

-- there is a token under this number, or was when the change began
abbrev pub IsReadable : BetaMemoryValue → ℕ → Type 0
IsReadable m i = (t : TokenValue) × (token_at m.tokens i ≡ Some t)

-- there is one now
abbrev pub IsThere : BetaMemoryValue → ℕ → Type 0
IsThere m i = (t : TokenValue) × (live m i ≡ Some t)

-- there was one when the change began
abbrev pub WasThere : BetaMemoryValue → ℕ → Type 0
WasThere m i = IsReadable m i × (In i m.come → ⊥)

-- these numbers stand for the partial matches of a list, and each of those has one
pub record StandFor (at : ℕ → Partial) (There : ℕ → Type 0) (ms : List Partial) : Type 0 where
  pub to : (i : ℕ) → There i → In (at i) ms
  pub from : (z : Partial) → In z ms → (i : ℕ) × There i × (z ≡ at i)

-- a change leads from one list to another: the tokens that were there stood for the partial matches of the first, and those that
-- are there stand for those of the second. No two numbers stand for partial matches with the same parts, not even where one is
-- gone and the other came, and nothing comes and goes in one change
pub record Turns (at : ℕ → Partial) (m : BetaMemoryValue) (old new : List Partial) : Type 0 where
  pub was : StandFor at (WasThere m) old
  pub is : StandFor at (IsThere m) new
  pub one : (i j : ℕ) → IsReadable m i → IsReadable m j → (at i).parts ≡ (at j).parts → i ≡ j
  pub went : (i : ℕ) → In i m.gone → WasThere m i
  pub came : (i : ℕ) → In i m.come → IsThere m i
  pub gone_once : Chain (λ (i : ℕ) (j : ℕ). i ≢ j) m.gone
  pub come_once : Chain (λ (i : ℕ) (j : ℕ). i ≢ j) m.come

-- the numbers below n
abbrev pub up_to : ℕ → List ℕ
up_to zero = []
up_to (suc n) = n ∷ up_to n

-- the numbers of the tokens that are there
abbrev pub numbers : BetaMemoryValue → List ℕ
numbers m = filter (λ i. is_some (live m i)) (up_to (length m.tokens))
