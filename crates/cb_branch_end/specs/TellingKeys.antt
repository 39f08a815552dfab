-- The matches at the end of a branch, their keys, and what a change tells of them.
use Rattle.std.specs.Prelude.{◌≡◌, ◌++◌, ℕ, List, Some, slice_get}
use Rattle.cb_beta.specs.BetaMemories.{BetaMemoryValue}
use Rattle.cb_branch_end.specs.declared.branch_end.BranchEnd.{BranchEnd}
use Rattle.cb_matches.specs.Chains.{In}
use Rattle.cb_matches.specs.Changes.{AddsNumbers, come_of}
use Rattle.cb_matches.specs.Keys.{KeyValue}
use Rattle.cb_matches.specs.Matches.{Partial}
use Rattle.cb_matches.specs.declared.delta.Delta.{Delta}
use Rattle.cb_token_lists.specs.Partials.{partial_at}
use Rattle.cb_token_lists.specs.Turns.{IsThere}

-- the list at the end of a branch
abbrev pub IsAtEnd : BranchEnd → BetaMemoryValue → Type 0
IsAtEnd end m = slice_get end.lists.lists.now end.last ≡ Some m

-- the partial match that a token there stands for
abbrev pub at_end : BranchEnd → ℕ → Partial
at_end end n = partial_at end.lists.sources.now end.lists.lists.now end.last n

-- no two tokens that are there stand for partial matches with the same parts
abbrev pub AreApart : (ℕ → Partial) → BetaMemoryValue → Type 0
AreApart at m = (i j : ℕ) → IsThere m i → IsThere m j → (at i).parts ≡ (at j).parts → i ≡ j

-- the key of a partial match at the end of a branch
abbrev pub key_of : ℕ → ℕ → Partial → KeyValue
key_of rule branch m = record { rule = rule; branch = branch; parts = m.parts }

-- a delta got the keys that went and those that came more, from the first keys to the second
pub record Tells (delta delta' : Delta) (old new : List KeyValue) : Type 0 where
  pub gone : delta'.gone.items ≡ delta.gone.items ++ come_of new old
  pub come : delta'.come.items ≡ delta.come.items ++ come_of old new

-- the match with this key is that of one of these tokens, which has this number
abbrev pub IsTokenOf : BranchEnd → (ℕ → Type 0) → KeyValue → ℕ → Type 0
IsTokenOf end There k n = There n × (k ≡ key_of end.rule end.branch (at_end end n))

-- A delta got the numbers more of all tokens that went, and of those that came, in the order of their keys.
pub record TellsTokens (end : BranchEnd) (m : BetaMemoryValue) (delta delta' : Delta) : Type 0 where
  pub gone : AddsNumbers (IsTokenOf end (λ n. In n m.gone)) delta.gone.items delta'.gone.items delta.gone_numbers.items delta'.gone_numbers.items
  pub come : AddsNumbers (IsTokenOf end (λ n. In n m.come)) delta.come.items delta'.come.items delta.come_numbers.items delta'.come_numbers.items
  pub went : (n : ℕ) → In n m.gone → In (key_of end.rule end.branch (at_end end n)) gone.more
