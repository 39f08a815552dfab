-- How tokens are found by their parents and their facts, and their numbers. No public clause cites this module.
use Rattle.std.specs.Prelude.{◌≡◌, ◌≢◌, ◌<◌, ℕ, List, Some, None}
use Rattle.std.specs.Option.{option_and_then, option_map}
use Rattle.cb_groups.specs.Groups.{Membership, group_of}
use Rattle.cb_matches.specs.Chains.{Chain, In}
use Rattle.cb_beta.specs.BetaMemories.{BetaMemoryValue, live, live_in}
use Rattle.cb_beta.specs.Tokens.{TokenValue, Tokens, candidate_of, token_at}

-- the parent of a token
abbrev pub parent_of : TokenValue → ℕ
parent_of t = t.parent

-- the groups are those of the tokens that are there, and what is gone can be read
pub record AreFiled (ts : Tokens) (gone : List ℕ) (by_parent by_fact : Membership) : Type 0 where
  pub children : (i : ℕ) → group_of by_parent i ≡ option_map parent_of (live_in ts gone i)
  pub with_fact : (i : ℕ) → group_of by_fact i ≡ option_and_then candidate_of (live_in ts gone i)
  pub readable : (i : ℕ) → In i gone → token_at ts i ≢ None

-- a token stands under a number that was free
pub record IsInserted (old new : Tokens) (number : ℕ) (t : TokenValue) : Type 0 where
  pub free : token_at old number ≡ None
  pub there : token_at new number ≡ Some t
  pub others : (i : ℕ) → i ≢ number → token_at new i ≡ token_at old i

-- no token stands under a number any more
pub record IsForgotten (old new : Tokens) (number : ℕ) : Type 0 where
  pub none : token_at new number ≡ None
  pub others : (i : ℕ) → i ≢ number → token_at new i ≡ token_at old i

-- all but this one have the groups that they had
abbrev pub KeepsOthers : Membership → Membership → ℕ → Type 0
KeepsOthers old new number = (i : ℕ) → i ≢ number → group_of new i ≡ group_of old i

-- these have no group any more, and the others have theirs
pub record AreLeft (old new : Membership) (numbers : List ℕ) : Type 0 where
  pub left : (i : ℕ) → In i numbers → group_of new i ≡ None
  pub others : (i : ℕ) → (In i numbers → ⊥) → group_of new i ≡ group_of old i

-- these are the numbers below n of the tokens that are there, none twice
pub record AreLiveBelow (m : BetaMemoryValue) (n : ℕ) (numbers : List ℕ) : Type 0 where
  pub are : (i : ℕ) → In i numbers → (t : TokenValue) × (live m i ≡ Some t)
  pub below : (i : ℕ) → In i numbers → i < n
  pub all : (i : ℕ) (t : TokenValue) → i < n → live m i ≡ Some t → In i numbers
  pub once : Chain (λ (i : ℕ) (j : ℕ). i ≢ j) numbers
