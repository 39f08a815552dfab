-- What a change does to an alpha memory, as its pattern sees it.
use Rattle.std.specs.Prelude.{◌≡◌, ◌⊎◌, ℕ, Bool, true, false, List, Option, Some, None, if◌then◌else◌, nat_eq, slice_get}
use Rattle.cb_alpha.specs.AlphaMemories.{AlphaMemoryValue, AreSameFields, candidate_in, live}
use Rattle.cb_constraints.specs.PatternValues.{PatternValue}
use Rattle.cb_facts.specs.FactLists.{IndexedFacts}
use Rattle.cb_facts.specs.Facts.{FactValue}
use Rattle.cb_fit.specs.Shapes.{is_selected}
use Rattle.cb_fit.specs.declared.join_fields.JoinField.{JoinField}
use Rattle.cb_matches.specs.Chains.{In}

-- the number is the one that is given, if one is
abbrev pub is_number : Option ℕ → ℕ → Bool
is_number None n = false
is_number (Some one) n = nat_eq n one

-- facts by their numbers: the one that came in this change, those that were there when it began, and those of them that still are
abbrev pub came_in : AlphaMemoryValue → ℕ → Option (ℕ × FactValue)
came_in m n = if is_number m.come n then candidate_in m.candidates n else None

abbrev pub were_in : AlphaMemoryValue → ℕ → Option (ℕ × FactValue)
were_in m n = if is_number m.come n then None else candidate_in m.candidates n

abbrev pub stay_in : AlphaMemoryValue → ℕ → Option (ℕ × FactValue)
stay_in m n = if is_number m.come n then None else live m n

-- these are just those facts of a list that are selected for the pattern
pub record AreCandidates (p : PatternValue) (fs : IndexedFacts) (facts : ℕ → Option (ℕ × FactValue)) : Type 0 where
  pub are : (n : ℕ) (f : ℕ × FactValue) → facts n ≡ Some f → In f fs × (is_selected p f.1 ≡ true)
  pub all : (f : ℕ × FactValue) → In f fs → is_selected p f.1 ≡ true → (n : ℕ) × (facts n ≡ Some f)

-- no two of the facts that can be read have the same index
abbrev pub IsOncePerIndex : AlphaMemoryValue → Type 0
IsOncePerIndex m = (i j : ℕ) (f g : ℕ × FactValue) → candidate_in m.candidates i ≡ Some f → candidate_in m.candidates j ≡ Some g → f.0 ≡ g.0 → i ≡ j

-- between changes: the memory has just the candidates of the pattern among these facts, each index under one number, and nothing
-- went or came
pub record IsAlphaOver (p : PatternValue) (fs : IndexedFacts) (m : AlphaMemoryValue) : Type 0 where
  pub has : AreCandidates p fs (live m)
  pub one : IsOncePerIndex m
  pub none_gone : m.gone ≡ None
  pub none_come : m.come ≡ None

-- the fact that came isn't the one that went
abbrev pub IsApart : AlphaMemoryValue → Type 0
IsApart m = (n : ℕ) → m.come ≡ Some n → m.gone ≡ Some n → ⊥

-- a change leads from one list of facts to another: the memory had the candidates of the first and has those of the second, each
-- index under one number. A fact came or one went, not both
pub record AlphaTurns (p : PatternValue) (m : AlphaMemoryValue) (fs fs' : IndexedFacts) : Type 0 where
  pub was : AreCandidates p fs (were_in m)
  pub is : AreCandidates p fs' (live m)
  pub one : IsOncePerIndex m
  pub apart : IsApart m
  pub single : (m.gone ≡ None) ⊎ (m.come ≡ None)

-- the facts are found by the values of these fields, under this number of a join
abbrev pub HasJoin : AlphaMemoryValue → ℕ → List JoinField → Type 0
HasJoin m join fields = (fs : List JoinField) × (slice_get m.joins join ≡ Some fs) × AreSameFields fs fields
