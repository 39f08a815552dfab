-- What comes to a beta memory.
use Rattle.std.specs.Prelude.{◌≡◌, ◌≢◌, ◌⊎◌, ◌++◌, ℕ, List, Some, None}
use Rattle.cb_beta.specs.BetaMemories.{BetaMemoryValue, live}
use Rattle.cb_beta.specs.Tokens.{TokenValue, token_at}
use Rattle.cb_matches.specs.Chains.{Chain, In}

-- just those tokens that are such came, each once, under numbers that were free
pub record Comes (old new : BetaMemoryValue) (Such : TokenValue → Type 0) : Type 0 where
  pub more : List ℕ
  pub come : new.come ≡ old.come ++ more
  pub gone : new.gone ≡ old.gone
  pub kept : (i : ℕ) (t : TokenValue) → token_at old.tokens i ≡ Some t → token_at new.tokens i ≡ Some t
  pub only : (i : ℕ) (t : TokenValue) → token_at new.tokens i ≡ Some t → (token_at old.tokens i ≡ Some t) ⊎ In i more
  pub are : (i : ℕ) → In i more → (t : TokenValue) × (token_at new.tokens i ≡ Some t) × (token_at old.tokens i ≡ None) × Such t
  pub all : (t : TokenValue) → Such t → (i : ℕ) × In i more × (token_at new.tokens i ≡ Some t)
  pub one : (i j : ℕ) (t : TokenValue) → In i more → In j more → token_at new.tokens i ≡ Some t → token_at new.tokens j ≡ Some t → i ≡ j
  pub once : Chain (λ (i : ℕ) (j : ℕ). i ≢ j) more

-- the tokens that are there are just those that are such, and no two that can be read are the same
pub record AreTokens (m : BetaMemoryValue) (Such : TokenValue → Type 0) : Type 0 where
  pub are : (i : ℕ) (t : TokenValue) → live m i ≡ Some t → Such t
  pub all : (t : TokenValue) → Such t → (i : ℕ) × (live m i ≡ Some t)
  pub one : (i j : ℕ) (t : TokenValue) → token_at m.tokens i ≡ Some t → token_at m.tokens j ≡ Some t → i ≡ j
