-- The keys of tokens, and what is told and found of them. No public clause cites this module.
use Rattle.std.specs.Prelude.{◌≡◌, ◌++◌, ℕ, List, Option, Some, None, map}
use Rattle.std.specs.List.Sorted.{IsPermutation, IsSorted, IsSortedBy}
use Rattle.std.specs.Ordering.{is_lt}
use Rattle.cb_beta.specs.BetaMemories.{BetaMemoryValue}
use Rattle.cb_branch_end.specs.TellingKeys.{at_end, key_of}
use Rattle.cb_branch_end.specs.declared.branch_end.BranchEnd.{BranchEnd}
use Rattle.cb_matches.specs.Keys.{KeyValue, PartValue, key_cmp}
use Rattle.cb_matches.specs.Matches.{Partial}
use Rattle.cb_token_lists.specs.Turns.{IsThere}

-- the key of the match that a token at the end of a branch stands for
abbrev pub key_at : BranchEnd → ℕ → KeyValue
key_at end n = key_of end.rule end.branch (at_end end n)

-- the keys of these tokens, in the order of keys, stand behind those that were there, and so do the numbers of the tokens
pub record AddsInOrder (key : ℕ → KeyValue) (ns : List ℕ) (old new : List KeyValue) (old_numbers new_numbers : List ℕ) : Type 0 where
  pub more : List ℕ
  pub is : new ≡ old ++ map key more
  pub numbers_are : new_numbers ≡ old_numbers ++ more
  pub permutes : IsPermutation ns more
  pub sorted : IsSorted key_cmp (map key more)

-- keys, each with a number, in the order of keys stand behind those that were there
pub record AddsPairs (pairs : List (KeyValue × ℕ)) (old new : List KeyValue) (old_numbers new_numbers : List ℕ) : Type 0 where
  pub more : List (KeyValue × ℕ)
  pub is : new ≡ old ++ map (λ p. p.0) more
  pub numbers_are : new_numbers ≡ old_numbers ++ map (λ p. p.1) more
  pub permutes : IsPermutation pairs more
  pub sorted : IsSortedBy (λ p q. is_lt (key_cmp p.0 q.0)) more

-- a token is there, and its match has these parts
abbrev pub IsMatch : (ℕ → Partial) → BetaMemoryValue → List PartValue → ℕ → Type 0
IsMatch at m parts n = IsThere m n × ((at n).parts ≡ parts)

-- one of those whose match has these parts, or there is none
abbrev pub IsFound : (ℕ → Partial) → BetaMemoryValue → List PartValue → Option ℕ → Type 0
IsFound at m parts None = (n : ℕ) → IsMatch at m parts n → ⊥
IsFound at m parts (Some n) = IsMatch at m parts n
