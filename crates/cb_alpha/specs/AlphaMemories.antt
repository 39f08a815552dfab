-- The facts of an alpha memory, by number, and what a change does to them.
use Rattle.std.specs.Prelude.{◌≡◌, ◌≢◌, ◌↔◌, ◌<◌, ℕ, false, Contains, List, Option, Some, None, if◌then◌else◌, length, nat_eq, option_map, slice_get, slice_index_or}
use Rattle.std.specs.List.{IsDistinct}
use Rattle.std.specs.Option.{option_and_then, option_map_or}
use Rattle.cb_alpha.specs.Buckets.{AreFirst, AreLast}
use Rattle.cb_alpha.specs.JoinValues.{field_values}
use Rattle.cb_facts.specs.Facts.{FactContent, FactValue}
use Rattle.cb_facts.specs.declared.value.Value.{Value}
use Rattle.cb_fit.specs.declared.join_fields.JoinField.{JoinField}
use Rattle.cb_matches.specs.Chains.{Chain, In}

-- the facts with their indices, by number
abbrev pub Candidates : Type 0
Candidates = List (Option (ℕ × FactValue))

abbrev pub candidate_in : Candidates → ℕ → Option (ℕ × FactValue)
candidate_in cs n = slice_index_or cs n None

-- the facts that can be read, the numbers of the one that went in this change and of the one that came, if one did, and the fields
-- of each join
pub record AlphaMemoryValue : Type 0 where
  pub candidates : Candidates
  pub gone : Option ℕ
  pub come : Option ℕ
  pub joins : List (List JoinField)

-- of the facts that can be read, those that aren't gone
abbrev pub live_in : Candidates → Option ℕ → ℕ → Option (ℕ × FactValue)
live_in cs gone n = if option_map_or (nat_eq n) gone false then None else candidate_in cs n

-- the fact that is there under a number, and its index
abbrev pub live : AlphaMemoryValue → ℕ → Option (ℕ × FactValue)
live m n = live_in m.candidates m.gone n

abbrev pub index_of : Option (ℕ × FactValue) → Option ℕ
index_of found = option_map (λ (f : ℕ × FactValue). f.0) found

-- the values of these fields in a fact, if there is one and it has them all
abbrev pub values_in : List JoinField → Option (ℕ × FactValue) → Option (List Value)
values_in fields found = option_and_then (λ (f : ℕ × FactValue). field_values fields f.1.content) found

-- these are the numbers of the facts that are there with these values in these fields, in any order, none twice
pub record AreFactsWith (m : AlphaMemoryValue) (fields : List JoinField) (values : List Value) (numbers : List ℕ) : Type 0 where
  pub are : (n : ℕ) → Contains numbers n ↔ (values_in fields (live m n) ≡ Some values)
  pub once : IsDistinct nat_eq numbers

-- these are the numbers of the facts that are there, in any order, none twice
pub record AreLiveNumbers (m : AlphaMemoryValue) (numbers : List ℕ) : Type 0 where
  pub are : (n : ℕ) → In n numbers → (f : ℕ × FactValue) × (live m n ≡ Some f)
  pub all : (n : ℕ) (f : ℕ × FactValue) → live m n ≡ Some f → In n numbers
  pub once : Chain (λ (i : ℕ) (j : ℕ). i ≢ j) numbers

-- the two have the same facts and joins
pub record IsSameMemory (old new : AlphaMemoryValue) : Type 0 where
  pub candidates : (n : ℕ) → candidate_in new.candidates n ≡ candidate_in old.candidates n
  pub gone : new.gone ≡ old.gone
  pub come : new.come ≡ old.come
  pub joins : new.joins ≡ old.joins

-- one fact more, under a number that was free, and it came
pub record GainsFact (old new : AlphaMemoryValue) (number : ℕ) (f : ℕ × FactValue) : Type 0 where
  pub free : candidate_in old.candidates number ≡ None
  pub there : candidate_in new.candidates number ≡ Some f
  pub others : (n : ℕ) → n ≢ number → candidate_in new.candidates n ≡ candidate_in old.candidates n
  pub gone : new.gone ≡ old.gone
  pub come : new.come ≡ Some number
  pub joins : new.joins ≡ old.joins

-- one fact went, the one with this index, and can still be read
pub record LosesFact (old new : AlphaMemoryValue) (number index : ℕ) : Type 0 where
  pub was : index_of (live old number) ≡ Some index
  pub gone : new.gone ≡ Some number
  pub come : new.come ≡ old.come
  pub candidates : new.candidates ≡ old.candidates
  pub joins : new.joins ≡ old.joins

-- what can be read is what was there, and nothing went or came
pub record IsEnded (old new : AlphaMemoryValue) : Type 0 where
  pub candidates : (n : ℕ) → candidate_in new.candidates n ≡ live old n
  pub gone : new.gone ≡ None
  pub come : new.come ≡ None
  pub joins : new.joins ≡ old.joins

-- two joins have the same values in every fact
abbrev pub AreSameFields : List JoinField → List JoinField → Type 0
AreSameFields fields others = (content : FactContent) → field_values fields content ≡ field_values others content

-- the facts are found by the values of these fields too, under this number of a join, and by those of the others as before
pub record GainsJoin (old new : AlphaMemoryValue) (join : ℕ) (fields : List JoinField) : Type 0 where
  pub within : join < length new.joins
  pub same : (fs : List JoinField) → slice_get new.joins join ≡ Some fs → AreSameFields fs fields
  pub others : (k : ℕ) (fs : List JoinField) → slice_get old.joins k ≡ Some fs → slice_get new.joins k ≡ Some fs
  pub candidates : new.candidates ≡ old.candidates
  pub gone : new.gone ≡ old.gone
  pub come : new.come ≡ old.come

-- a fact that is there has these values in these fields
abbrev pub HasFactWith : AlphaMemoryValue → List JoinField → List Value → Type 0
HasFactWith m fields values = (n : ℕ) × (values_in fields (live m n) ≡ Some values)

-- these are the least, or the greatest, values from the first on, before the second, that a fact has in these fields, or none has such
abbrev pub AreFirstInFacts : AlphaMemoryValue → List JoinField → List Value → List Value → Option (List Value) → Type 0
AreFirstInFacts m fields low high first = AreFirst (HasFactWith m fields) low high first

abbrev pub AreLastInFacts : AlphaMemoryValue → List JoinField → List Value → List Value → Option (List Value) → Type 0
AreLastInFacts m fields low high last = AreLast (HasFactWith m fields) low high last
