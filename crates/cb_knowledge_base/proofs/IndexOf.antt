-- The index that an equal fact has, by a search among the facts and by a look-up.
use Rattle.std.proofs.Common.{◌≡◌, ℕ, Bool, true, false, [], ◌∷◌, Option, Some, None, refl, ap, ap₂, subst, cond, if◌then◌else◌}
use Rattle.std.proofs.lemmas.Cmp.{eq_by_cmp_equiv, nat_cmp_total}
use Rattle.std.proofs.lemmas.Map.Keys.{IsDistinct-from_sorted}
use Rattle.std.proofs.lemmas.Map.Views.{lookup-from_Contains}
use Rattle.std.specs.BTreeMap.{is_at}
use Rattle.std.specs.List.{Contains}
use Rattle.std.specs.Map.{keys_of}
use Rattle.std.specs.Ordering.{nat_cmp, eq_by_cmp}
use Rattle.cb_facts.proofs.FactEquality.{fact-Decides}
use Rattle.cb_facts.proofs.MemberLaws.{contains_here, contains_there}
use Rattle.cb_facts.specs.FactLists.{IndexedFacts, fact_at, IsAbsent, IsFactBase}
use Rattle.cb_facts.specs.Facts.{FactValue, fact_eq}
use Rattle.cb_knowledge_base.specs.KnowledgeBase.{index_of}

-- what the search finds is there
found_first : (i ix : ℕ) (there fact : FactValue) (facts : IndexedFacts) (t : Bool) → fact_eq there fact ≡ t → (if t then Some i else index_of facts fact) ≡ Some ix
    → (index_of facts fact ≡ Some ix → Contains facts (ix, fact)) → Contains ((i, there) ∷ facts) (ix, fact)
found_first i ix there fact facts true e h more =
    let index_is : i ≡ ix = cc in
    let same : (i, there) ≡ (ix, fact) = ap₂ (λ (n : ℕ) (f : FactValue). (n, f)) index_is ((fact-Decides there fact).0 e) in
    subst (Contains ((i, there) ∷ facts)) same (contains_here (i, there) facts)
found_first i ix there fact facts false e h more = contains_there (i, there) (ix, fact) facts (more h)

found : (facts : IndexedFacts) (fact : FactValue) (ix : ℕ) → index_of facts fact ≡ Some ix → Contains facts (ix, fact)
found [] fact ix h = absurd (cc)
found ((i, there) ∷ facts) fact ix h = found_first i ix there fact facts (fact_eq there fact) refl h (found facts fact ix)

-- a fact that is there is found
missed_first : (i q : ℕ) (there fact : FactValue) (facts : IndexedFacts) (t u : Bool) → fact_eq there fact ≡ t → cond u (Some there) (fact_at facts q) ≡ Some fact
    → (if t then Some i else index_of facts fact) ≡ None → (fact_at facts q ≡ Some fact → index_of facts fact ≡ None → ⊥) → ⊥
missed_first i q there fact facts true u e at none more = cc
missed_first i q there fact facts false true e at none more =
    let same : there ≡ fact = cc in
    let yes : fact_eq there fact ≡ true = (fact-Decides there fact).1 same in
    cc
missed_first i q there fact facts false false e at none more = more at none

missed : (facts : IndexedFacts) (fact : FactValue) (q : ℕ) → fact_at facts q ≡ Some fact → index_of facts fact ≡ None → ⊥
missed [] fact q at none = cc
missed ((i, there) ∷ facts) fact q at none = missed_first i q there fact facts (fact_eq there fact) (is_at (nat_cmp q) i) refl at none (missed facts fact q)

found_at : (facts : IndexedFacts) (fact : FactValue) (ix : ℕ) → IsFactBase facts → index_of facts fact ≡ Some ix → fact_at facts ix ≡ Some fact
found_at facts fact ix base h =
    lookup-from_Contains {eq = eq_by_cmp nat_cmp} (eq_by_cmp_equiv nat_cmp_total) ix fact facts (IsDistinct-from_sorted nat_cmp (keys_of facts) base.rising) (found facts fact ix h)

index_of-there_by : (facts : IndexedFacts) (fact : FactValue) (ix : ℕ) → IsFactBase facts → fact_at facts ix ≡ Some fact → (o : Option ℕ) → index_of facts fact ≡ o → o ≡ Some ix
index_of-there_by facts fact ix base at None e = absurd (missed facts fact ix at e)
index_of-there_by facts fact ix base at (Some j) e = ap Some (base.distinct fact j ix (found_at facts fact j base e) at)

pub index_of-there : (facts : IndexedFacts) (fact : FactValue) (ix : ℕ) → IsFactBase facts → fact_at facts ix ≡ Some fact → index_of facts fact ≡ Some ix
index_of-there facts fact ix base at = index_of-there_by facts fact ix base at (index_of facts fact) refl

index_of-absent_by : (facts : IndexedFacts) (fact : FactValue) → IsFactBase facts → IsAbsent facts fact → (o : Option ℕ) → index_of facts fact ≡ o → o ≡ None
index_of-absent_by facts fact base absent None e = refl
index_of-absent_by facts fact base absent (Some j) e = absurd (absent j (found_at facts fact j base e))

pub index_of-absent : (facts : IndexedFacts) (fact : FactValue) → IsFactBase facts → IsAbsent facts fact → index_of facts fact ≡ None
index_of-absent facts fact base absent = index_of-absent_by facts fact base absent (index_of facts fact) refl
