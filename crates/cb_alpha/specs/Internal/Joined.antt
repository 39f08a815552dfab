-- The facts of an alpha memory, by their indices and by the values of join fields.
use Rattle.std.specs.Prelude.{◌≡◌, ◌≢◌, ◌≤◌, ◌^◌, ℕ, All, List, Option, Some, None, option_map}
use Rattle.cb_alpha.specs.AlphaMemories.{Candidates, candidate_in, index_of, live_in, values_in}
use Rattle.cb_alpha.specs.Buckets.{Filing, values_at}
use Rattle.cb_facts.specs.Facts.{FactValue}
use Rattle.cb_fit.specs.declared.join_fields.JoinField.{JoinField}
use Rattle.cb_groups.specs.Groups.{Membership, group_of}
use Rattle.cb_number_map.specs.Filed.{AreFound}

-- the fields of a join, and the facts that are filed
pub record JoinIndexValue : Type 0 where
  pub fields : List JoinField
  pub facts : Filing

abbrev pub fields_of : JoinIndexValue → List JoinField
fields_of j = j.fields

-- each fact is filed by the values of the fields
abbrev pub IsFiled : (ℕ → Option (ℕ × FactValue)) → JoinIndexValue → Type 0
IsFiled found j = (n : ℕ) → values_at j.facts n ≡ values_in j.fields (found n)

-- but for what this number stands for
abbrev pub IsFiledBut : ℕ → (ℕ → Option (ℕ × FactValue)) → JoinIndexValue → Type 0
IsFiledBut number found j = (n : ℕ) → n ≢ number → values_at j.facts n ≡ values_in j.fields (found n)

-- each number has 32 bits
abbrev pub AreSmall : Candidates → Type 0
AreSmall cs = (n : ℕ) → 2 ^ 32 ≤ n → candidate_in cs n ≡ None

-- the facts that are there are found by their indices and by the values of each join, the one that is gone can be read, and each
-- number has 32 bits
pub record IsFound (cs : Candidates) (gone : Option ℕ) (number : ℕ → Option ℕ) (joins : List JoinIndexValue) : Type 0 where
  pub by_index : AreFound number (λ n. index_of (live_in cs gone n))
  pub by_values : All (IsFiled (live_in cs gone)) joins
  pub readable : (n : ℕ) → gone ≡ Some n → candidate_in cs n ≢ None
  pub small : AreSmall cs

-- the group in which a number is listed, by the fact that is there
abbrev pub group_for : Option (ℕ × FactValue) → Option ℕ
group_for found = option_map (λ (f : ℕ × FactValue). 0) found

-- the numbers of the facts that are there are listed, and no others
abbrev pub AreListed : Membership → (ℕ → Option (ℕ × FactValue)) → Type 0
AreListed all found = (n : ℕ) → group_of all n ≡ group_for (found n)

-- a fact stands under a number that was free
pub record IsInserted (old new : Candidates) (number : ℕ) (f : ℕ × FactValue) : Type 0 where
  pub free : candidate_in old number ≡ None
  pub there : candidate_in new number ≡ Some f
  pub others : (n : ℕ) → n ≢ number → candidate_in new n ≡ candidate_in old n

-- what is under this number can be read, if a number is given
abbrev pub IsReadable : Candidates → Option ℕ → Type 0
IsReadable cs number = (n : ℕ) → number ≡ Some n → candidate_in cs n ≢ None
