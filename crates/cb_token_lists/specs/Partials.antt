-- The partial matches that tokens stand for, found by going down the lists.
use Rattle.std.specs.Prelude.{◌≡◌, ◌++◌, ◌<◌, ℕ, zero, suc, List, [], Option, Some, slice_get}
use Rattle.std.specs.Option.{option_map_or}
use Rattle.cb_beta.specs.BetaMemories.{BetaMemoryValue}
use Rattle.cb_beta.specs.Tokens.{TokenValue, Tokens, partial_after, token_at}
use Rattle.cb_matches.specs.Keys.{PartValue}
use Rattle.cb_matches.specs.Matches.{Partial, no_parts}

-- what a list goes on from: the number of a list before it, and the variable that has the address of what is taken there
pub record SourceValue : Type 0 where
  pub from : ℕ
  pub address : Option (List ℕ)

-- the tokens that can be read in a list
abbrev pub tokens_in : List BetaMemoryValue → ℕ → Tokens
tokens_in lists k = option_map_or (λ (m : BetaMemoryValue). m.tokens) (slice_get lists k) []

-- the partial match that a number stands for in list k, where list 0 is before the first element, and list suc k has the source with
-- the number k. n is more than k
abbrev pub partial_in : List SourceValue → List BetaMemoryValue → ℕ → ℕ → ℕ → Partial
partial_in sources lists zero k i = no_parts
partial_in sources lists (suc n) zero i = no_parts
partial_in sources lists (suc n) (suc k) i =
    option_map_or (λ (s : SourceValue). partial_after s.address (tokens_in lists (suc k)) (partial_in sources lists n s.from) i) (slice_get sources k) no_parts

abbrev pub partial_at : List SourceValue → List BetaMemoryValue → ℕ → ℕ → Partial
partial_at sources lists k i = partial_in sources lists (suc k) k i

-- each list goes on from one before it
abbrev pub AreBelow : List SourceValue → Type 0
AreBelow sources = (k : ℕ) (s : SourceValue) → slice_get sources k ≡ Some s → s.from < suc k

-- and each token that can be read goes on from one that can be read there
pub record AreClosed (sources : List SourceValue) (lists : List BetaMemoryValue) : Type 0 where
  pub below : AreBelow sources
  pub there : (k j i : ℕ) (s : SourceValue) (t : TokenValue) → slice_get sources k ≡ Some s → s.from ≡ suc j → token_at (tokens_in lists (suc k)) i ≡ Some t
      → (u : TokenValue) × (token_at (tokens_in lists (suc j)) t.parent ≡ Some u)

-- what can be read stays so
abbrev pub Extends : List BetaMemoryValue → List BetaMemoryValue → Type 0
Extends lists lists' = (k i : ℕ) (t : TokenValue) → token_at (tokens_in lists k) i ≡ Some t → token_at (tokens_in lists' k) i ≡ Some t

-- going down from token i of list k, token a of list j is met
pub data Meets (sources : List SourceValue) (lists : List BetaMemoryValue) (j a : ℕ) : ℕ → ℕ → Type 0 where
  meets_here : Meets sources lists j a j a
  meets_below : (k i : ℕ) (s : SourceValue) (t : TokenValue) → slice_get sources k ≡ Some s → token_at (tokens_in lists (suc k)) i ≡ Some t
      → Meets sources lists j a s.from t.parent → Meets sources lists j a (suc k) i

-- the second partial match has the parts of the first, and maybe others behind them
abbrev pub GoesOnFrom : Partial → Partial → Type 0
GoesOnFrom m z = (rest : List PartValue) × (z.parts ≡ m.parts ++ rest)

-- going down from list k, list j is come to
pub data LeadsTo (sources : List SourceValue) (j : ℕ) : ℕ → Type 0 where
  leads_here : LeadsTo sources j j
  leads_below : (k : ℕ) (s : SourceValue) → slice_get sources k ≡ Some s → LeadsTo sources j s.from → LeadsTo sources j (suc k)
