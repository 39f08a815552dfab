-- The facts of a sound memory: where an equal one is found, and what is kept where some are taken out.
use Rattle.std.proofs.Common.{◌≡◌, ◌<◌, ℕ, Bool, true, false, [], ◌∷◌, Option, Some, None, Contains, refl, ap₂, subst, if◌then◌else◌}
use Rattle.std.proofs.lemmas.Cmp.{eq_by_cmp_equiv, nat_cmp_total}
use Rattle.std.proofs.lemmas.Map.Keys.{IsDistinct-from_sorted}
use Rattle.std.proofs.lemmas.Map.Views.{lookup-from_Contains}
use Rattle.std.specs.List.Sorted.{IsStrictlySortedBy}
use Rattle.std.specs.Map.{keys_of}
use Rattle.std.specs.Ordering.{eq_by_cmp, nat_cmp}
use Rattle.cb_facts.specs.FactLists.{IndexedFacts, fact_at, IsFactBase}
use Rattle.cb_facts.specs.Facts.{FactValue, fact_eq}
use Rattle.cb_facts.proofs.FactEquality.{fact-Decides}
use Rattle.cb_facts.proofs.MemberLaws.{contains_here, contains_there}
use Rattle.cb_knowledge_base.proofs.IndexOf.{index_of-there}
use Rattle.cb_knowledge_base.specs.KnowledgeBase.{Memory, index_of}
use Rattle.cb_laws.specs.Memories.{IsSound}

pub base_of : (m : Memory) → IsSound m → IsFactBase m.network.facts
base_of m sound = record { rising = sound.rising; distinct = sound.distinct }

-- what a search finds is there
found_in : (facts : IndexedFacts) (fact : FactValue) (ix : ℕ) → index_of facts fact ≡ Some ix → Contains facts (ix, fact)
found_in [] fact ix h = absurd (cc)
found_in ((i, there) ∷ facts) fact ix h = by (fact_eq there fact) refl h (found_in facts fact ix)
  where
    by : (t : Bool) → fact_eq there fact ≡ t → (if t then Some i else index_of facts fact) ≡ Some ix → (index_of facts fact ≡ Some ix → Contains facts (ix, fact)) → Contains ((i, there) ∷ facts) (ix, fact)
    by true e is more =
        let index_is : i ≡ ix = cc in
        subst (Contains ((i, there) ∷ facts)) (ap₂ (λ (n : ℕ) (f : FactValue). (n, f)) index_is ((fact-Decides there fact).0 e)) (contains_here (i, there) facts)
    by false e is more = contains_there (i, there) (ix, fact) facts (more is)

pub found_there : (m : Memory) (fact : FactValue) (ix : ℕ) → IsSound m → index_of m.network.facts fact ≡ Some ix → fact_at m.network.facts ix ≡ Some fact
found_there m fact ix sound h =
    lookup-from_Contains {eq = eq_by_cmp nat_cmp} (eq_by_cmp_equiv nat_cmp_total) ix fact m.network.facts (IsDistinct-from_sorted nat_cmp (keys_of m.network.facts) sound.rising) (found_in m.network.facts fact ix h)

pub not_found : (m : Memory) (fact : FactValue) (ix : ℕ) → IsSound m → index_of m.network.facts fact ≡ None → fact_at m.network.facts ix ≡ Some fact → ⊥
not_found m fact ix sound none at =
    let there : index_of m.network.facts fact ≡ Some ix = index_of-there m.network.facts fact ix (base_of m sound) at in
    cc

-- where facts are only taken out, the memory stays sound
pub fewer : (m n : Memory) → IsSound m → IsStrictlySortedBy nat_cmp (keys_of n.network.facts) → n.last ≡ m.last → ((ix : ℕ) (fact : FactValue) → fact_at n.network.facts ix ≡ Some fact → fact_at m.network.facts ix ≡ Some fact) → IsSound n
fewer m n sound rising last kept = record {
  rising = rising;
  distinct = λ fact i j p q. sound.distinct fact i j (kept i fact p) (kept j fact q);
  none_after = λ ix above. none ix above (fact_at n.network.facts ix) refl;
} where
  none : (ix : ℕ) → n.last < ix → (o : Option FactValue) → fact_at n.network.facts ix ≡ o → fact_at n.network.facts ix ≡ None
  none ix above None e = e
  none ix above (Some fact) e =
      let gone : fact_at m.network.facts ix ≡ None = sound.none_after ix (subst (λ l. l < ix) last above) in
      let there : fact_at m.network.facts ix ≡ Some fact = kept ix fact e in
      absurd (cc)
