-- The facts of a working memory by their indices: a finite map with no two equal facts.
use Rattle.std.specs.Prelude.{◌≡◌, ◌≢◌, ℕ, List, Option, Some}
use Rattle.std.specs.BTreeMap.{is_at, insert_entry}
use Rattle.std.specs.List.Sorted.{IsStrictlySortedBy}
use Rattle.std.specs.Map.{keys_of, lookup, remove_entry}
use Rattle.std.specs.Ordering.{nat_cmp}
use Rattle.cb_facts.specs.Facts.{FactValue}

-- each fact after its index
abbrev pub IndexedFacts : Type 0
IndexedFacts = List (ℕ × FactValue)

-- the fact with the index
abbrev pub fact_at : IndexedFacts → ℕ → Option FactValue
fact_at facts ix = lookup (is_at (nat_cmp ix)) facts

-- the facts and one more, put where its index belongs
abbrev pub with_fact : IndexedFacts → ℕ → FactValue → IndexedFacts
with_fact facts ix fact = insert_entry nat_cmp facts ix fact

-- the facts but for the one with the index
abbrev pub without_fact : IndexedFacts → ℕ → IndexedFacts
without_fact facts ix = remove_entry (is_at (nat_cmp ix)) facts

-- no index has the fact
abbrev pub IsAbsent : IndexedFacts → FactValue → Type 0
IsAbsent facts fact = (ix : ℕ) → fact_at facts ix ≢ Some fact

-- no two indices have the same fact
abbrev pub HasNoEqualFacts : IndexedFacts → Type 0
HasNoEqualFacts facts = (fact : FactValue) (i j : ℕ) → fact_at facts i ≡ Some fact → fact_at facts j ≡ Some fact → i ≡ j

-- the indices rise, and no two facts are equal
pub record IsFactBase (facts : IndexedFacts) : Type 0 where
  pub rising : IsStrictlySortedBy nat_cmp (keys_of facts)
  pub distinct : HasNoEqualFacts facts

-- A look-up has this answer at the key, and elsewhere the same as before.
pub record ChangesOnly {K V : Type 0} (old new : K → Option V) (key : K) (answer : Option V) : Type 0 where
  pub here : new key ≡ answer
  pub others : (k : K) → key ≢ k → new k ≡ old k
