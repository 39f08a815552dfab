-- A fact more under an index that no fact has.
use Rattle.std.proofs.Common.{◌≡◌, ◌≢◌, ◌⊎◌, inl, inr, ◌∙◌, ◌≤◌, ℕ, Some, sym, ap, arith}
use Rattle.std.proofs.lemmas.Bool.{cases_eq}
use Rattle.std.proofs.lemmas.Cmp.{nat_cmp_total}
use Rattle.std.specs.BTreeMap.{is_at}
use Rattle.std.specs.List.Sorted.{IsStrictlySortedBy}
use Rattle.std.specs.Map.{keys_of}
use Rattle.std.specs.Ordering.{nat_cmp}
use Rattle.cb_facts.specs.FactLists.{HasNoEqualFacts, IsAbsent, fact_at, with_fact}
use Rattle.cb_facts.specs.Facts.{FactValue}
use Rattle.cb_facts.proofs.MemberLaws.{is_at-Decides}
use Rattle.cb_knowledge_base.specs.KnowledgeBase.{Memory, put_back}
use Rattle.cb_laws.proofs.EntryLaws.{put_here, put_elsewhere, rising_put}
use Rattle.cb_laws.specs.Memories.{IsSound}

module _ (m : Memory) (f : FactValue) (new : ℕ) where
  pub at_new : fact_at (with_fact m.network.facts new f) new ≡ Some f
  at_new = put_here nat_cmp (λ i j. is_at (nat_cmp i) j) is_at-Decides is_at-Decides m.network.facts new f

  pub at_old : (q : ℕ) → q ≢ new → fact_at (with_fact m.network.facts new f) q ≡ fact_at m.network.facts q
  at_old q n = put_elsewhere nat_cmp (λ i j. is_at (nat_cmp i) j) is_at-Decides is_at-Decides m.network.facts new q f n

  only_by : (q : ℕ) (g : FactValue) → fact_at (with_fact m.network.facts new f) q ≡ Some g → (q ≡ new) ⊎ (q ≢ new) → (fact_at m.network.facts q ≡ Some g) ⊎ ((q ≡ new) × (f ≡ g))
  only_by q g at (inl e) =
      let is : Some f ≡ Some g = sym at_new ∙ ap (fact_at (with_fact m.network.facts new f)) (sym e) ∙ at in
      let same : f ≡ g = cc in
      inr (e, same)
  only_by q g at (inr n) = inl (sym (at_old q n) ∙ at)

  pub only_there : (q : ℕ) (g : FactValue) → fact_at (with_fact m.network.facts new f) q ≡ Some g → (fact_at m.network.facts q ≡ Some g) ⊎ ((q ≡ new) × (f ≡ g))
  only_there q g at = only_by q g at (cases_eq q new)

  module _ (sound : IsSound m) (absent : IsAbsent m.network.facts f) where
    distinct_by : (g : FactValue) (i j : ℕ) → (fact_at m.network.facts i ≡ Some g) ⊎ ((i ≡ new) × (f ≡ g)) → (fact_at m.network.facts j ≡ Some g) ⊎ ((j ≡ new) × (f ≡ g)) → i ≡ j
    distinct_by g i j (inl p) (inl q) = sound.distinct g i j p q
    distinct_by g i j (inl p) (inr q) = absurd (absent i (p ∙ ap Some (sym q.1)))
    distinct_by g i j (inr p) (inl q) = absurd (absent j (q ∙ ap Some (sym p.1)))
    distinct_by g i j (inr p) (inr q) = p.0 ∙ sym q.0

    pub rising_with : IsStrictlySortedBy nat_cmp (keys_of (with_fact m.network.facts new f))
    rising_with = rising_put nat_cmp nat_cmp_total m.network.facts new f sound.rising

    pub distinct_with : HasNoEqualFacts (with_fact m.network.facts new f)
    distinct_with g i j p q = distinct_by g i j (only_there i g p) (only_there j g q)

    pub put_back_sound : new ≤ m.last → IsSound (put_back new f m)
    put_back_sound given = record {
      rising = rising_with;
      distinct = distinct_with;
      none_after = λ ix above. at_old ix (λ e. omega arith) ∙ sound.none_after ix above;
    }
