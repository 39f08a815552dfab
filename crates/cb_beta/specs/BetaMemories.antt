-- The tokens of a list of partial matches, and what a change does to them.
use Rattle.std.specs.Prelude.{◌≡◌, ◌≢◌, ◌++◌, ℕ, List, [], ◌∷◌, Option, Some, None, nat_eq, if◌then◌else◌}
use Rattle.std.specs.List.{list_any}
use Rattle.cb_matches.specs.Chains.{Chain, In}
use Rattle.cb_beta.specs.Tokens.{TokenValue, Tokens, candidate_of, token_at}

-- the tokens that can be read, and the numbers of those that went and of those that came in this change
pub record BetaMemoryValue : Type 0 where
  pub tokens : Tokens
  pub gone : List ℕ
  pub come : List ℕ

-- of the tokens that can be read, those that aren't gone
abbrev pub live_in : Tokens → List ℕ → ℕ → Option TokenValue
live_in ts gone i = if list_any (nat_eq i) gone then None else token_at ts i

-- the token that is there under a number
abbrev pub live : BetaMemoryValue → ℕ → Option TokenValue
live m i = live_in m.tokens m.gone i

-- these are the numbers of the tokens that are there, in any order, none twice
pub record AreLiveNumbers (m : BetaMemoryValue) (numbers : List ℕ) : Type 0 where
  pub are : (i : ℕ) → In i numbers → (t : TokenValue) × (live m i ≡ Some t)
  pub all : (i : ℕ) (t : TokenValue) → live m i ≡ Some t → In i numbers
  pub once : Chain (λ (i : ℕ) (j : ℕ). i ≢ j) numbers

-- the two have the same tokens
pub record IsSame (old new : BetaMemoryValue) : Type 0 where
  pub tokens : (i : ℕ) → token_at new.tokens i ≡ token_at old.tokens i
  pub gone : new.gone ≡ old.gone
  pub come : new.come ≡ old.come

-- one token more, under a number that was free, and it came
pub record Gains (old new : BetaMemoryValue) (number : ℕ) (t : TokenValue) : Type 0 where
  pub free : token_at old.tokens number ≡ None
  pub there : token_at new.tokens number ≡ Some t
  pub others : (i : ℕ) → i ≢ number → token_at new.tokens i ≡ token_at old.tokens i
  pub gone : new.gone ≡ old.gone
  pub come : new.come ≡ old.come ++ number ∷ []

-- those that were there and are such went, each once, and can still be read
pub record Loses (old new : BetaMemoryValue) (Such : TokenValue → Type 0) : Type 0 where
  pub more : List ℕ
  pub gone : new.gone ≡ old.gone ++ more
  pub are : (i : ℕ) → In i more → (t : TokenValue) × (live old i ≡ Some t) × Such t
  pub all : (i : ℕ) (t : TokenValue) → live old i ≡ Some t → Such t → In i more
  pub once : Chain (λ (i : ℕ) (j : ℕ). i ≢ j) more
  pub tokens : new.tokens ≡ old.tokens
  pub come : new.come ≡ old.come

-- it took the fact of this number, if one is given
abbrev pub HasFact : Option ℕ → TokenValue → Type 0
HasFact None t = ⊥
HasFact (Some candidate) t = candidate_of t ≡ Some candidate

-- what can be read is what was there, and nothing went or came
pub record IsEnded (old new : BetaMemoryValue) : Type 0 where
  pub tokens : (i : ℕ) → token_at new.tokens i ≡ live old i
  pub gone : new.gone ≡ []
  pub come : new.come ≡ []
