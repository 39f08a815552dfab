-- What only the code needs.
pub mod FactLaws
pub mod FactOrder
pub mod Hashes
pub mod NamePlaces
pub mod ShortNames
use Rattle.std.specs.Prelude.{◌≡◌, ◌++◌, ℕ, List, Option, Some, Result, Ok, Err}
use Rattle.std.specs.BTreeMap.{BTreeMap}
use Rattle.std.specs.List.Sorted.{IsStrictlySortedBy}
use Rattle.std.specs.Map.{keys_of}
use Rattle.std.specs.Ordering.{nat_cmp}
use Rattle.cb_facts.specs.Facts.{FactValue, content_of, fact_eq}
use Rattle.cb_facts.specs.Internal.FactOrder.{fact_cmp, hash_of, mix_of}
use Rattle.cb_facts.specs.FactLists.{IndexedFacts, fact_at}
use Rattle.cb_facts.specs.declared.fact.Body.{Body}
use Rattle.cb_forms.specs.declared.fault.Fault.{Fault}
use Rattle.cb_number_map.specs.Filed.{AreFound, number_in}
use Rattle.cb_number_map.specs.declared.number_map.NumberMap.{NumberMap}

-- A look-up of keys by values gives a key exactly where that key has the value.
pub record Agree {V : Type 0} (find : V → Option ℕ) (at : ℕ → Option V) : Type 0 where
  pub listed : (v : V) (k : ℕ) → find v ≡ Some k → at k ≡ Some v
  pub known : (v : V) (k : ℕ) → at k ≡ Some v → find v ≡ Some k

-- the index that is found by a fact: the one that is filed under its mix, if it has this fact, or else the one that stands aside
abbrev pub index_in : (ℕ → Option FactValue) → NumberMap → BTreeMap FactValue ℕ → FactValue → Option ℕ
index_in = number_in fact_eq fact_cmp mix_of

-- The indices rise, and the look-up by facts gives an index exactly where that index has the fact.
pub record IsIndexed (facts : IndexedFacts) (find : FactValue → Option ℕ) : Type 0 where
  pub rising : IsStrictlySortedBy nat_cmp (keys_of facts)
  pub agree : AreFound find (fact_at facts)

-- what the body of a fact says
abbrev pub body_fact : Body → FactValue
body_fact body = record { relation = body.relation; content = content_of body.content }

-- this is the hash of the fact with the body
abbrev pub IsHashOf : ℕ → Body → Type 0
IsHashOf hash body = hash ≡ hash_of (body_fact body)

-- results after those that are there
abbrev pub after_those : {X : Type 0} → List X → Result (List X) Fault → Result (List X) Fault
after_those xs (Ok ys) = Ok (xs ++ ys)
after_those xs (Err f) = Err f
