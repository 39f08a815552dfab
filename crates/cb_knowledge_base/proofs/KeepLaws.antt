-- What is asserted takes nothing away: the facts that are there keep their indices, and a new fact has an index that none had.
use Rattle.std.proofs.Common.{◌≡◌, ◌≢◌, ◌≤◌, ◌+◌, ◌∙◌, ℕ, false, [], ◌∷◌, Some, None, Ordering, Less, Equal, Greater, refl, sym, ap, arith, cond}
use Rattle.std.specs.BTreeMap.{is_at}
use Rattle.std.specs.Ordering.{is_eq, nat_cmp, match_ordering}
use Rattle.cb_facts.proofs.MemberLaws.{is_at-Decides}
use Rattle.std.proofs.lemmas.Bool.{false_from_ne_true}
use Rattle.cb_facts.specs.FactLists.{ChangesOnly, IndexedFacts, fact_at, with_fact}
use Rattle.cb_facts.specs.Facts.{FactValue}
use Rattle.cb_knowledge_base.specs.KnowledgeBase.{Memory, grown, put_back}
use Rattle.cb_knowledge_base.specs.Laws.{NoneAfter, Keeps}

not_at : (q i : ℕ) → q ≢ i → is_at (nat_cmp q) i ≡ false
not_at q i apart = false_from_ne_true (is_at (nat_cmp q) i) (λ e. apart ((is_at-Decides q i).0 e))

-- elsewhere a fact more changes no look-up
elsewhere_by : (facts : IndexedFacts) (ix i q : ℕ) (fact there : FactValue) (o : Ordering) → nat_cmp ix i ≡ o → q ≢ ix → fact_at (with_fact facts ix fact) q ≡ fact_at facts q
    → fact_at (match_ordering o ((ix, fact) ∷ (i, there) ∷ facts) ((i, fact) ∷ facts) ((i, there) ∷ with_fact facts ix fact)) q ≡ fact_at ((i, there) ∷ facts) q
elsewhere_by facts ix i q fact there Less e apart more = ap (λ t. cond t (Some fact) (fact_at ((i, there) ∷ facts) q)) (not_at q ix apart)
elsewhere_by facts ix i q fact there Equal e apart more =
    let same : ix ≡ i = (is_at-Decides ix i).0 (ap is_eq e) in
    let no : is_at (nat_cmp q) i ≡ false = not_at q i (λ h. apart (h ∙ sym same)) in
    ap (λ t. cond t (Some fact) (fact_at facts q)) no ∙ sym (ap (λ t. cond t (Some there) (fact_at facts q)) no)
elsewhere_by facts ix i q fact there Greater e apart more = ap (cond (is_at (nat_cmp q) i) (Some there)) more

elsewhere : (facts : IndexedFacts) (ix q : ℕ) (fact : FactValue) → q ≢ ix → fact_at (with_fact facts ix fact) q ≡ fact_at facts q
elsewhere [] ix q fact apart = ap (λ t. cond t (Some fact) None) (not_at q ix apart)
elsewhere ((i, there) ∷ facts) ix q fact apart = elsewhere_by facts ix i q fact there (nat_cmp ix i) refl apart (elsewhere facts ix q fact apart)

-- An assertion changes nothing up to the last index.
pub keeps_others : (m : Memory) (fact : FactValue) → NoneAfter m → Keeps m (grown fact m)
keeps_others m fact none = record {
  rises = omega arith;
  same = λ ix upto. elsewhere m.network.facts (m.last + 1) ix fact (λ e. omega arith);
  none_after = λ ix above. elsewhere m.network.facts (m.last + 1) ix fact (λ e. omega arith) ∙ none ix (omega arith);
}

-- a fact more is found at its index
here_by : (facts : IndexedFacts) (ix i : ℕ) (fact there : FactValue) (o : Ordering) → nat_cmp ix i ≡ o → fact_at (with_fact facts ix fact) ix ≡ Some fact
    → fact_at (match_ordering o ((ix, fact) ∷ (i, there) ∷ facts) ((i, fact) ∷ facts) ((i, there) ∷ with_fact facts ix fact)) ix ≡ Some fact
here_by facts ix i fact there Less e more = ap (λ t. cond t (Some fact) (fact_at ((i, there) ∷ facts) ix)) ((is_at-Decides ix ix).1 refl)
here_by facts ix i fact there Equal e more = ap (λ t. cond t (Some fact) (fact_at facts ix)) (ap is_eq e)
here_by facts ix i fact there Greater e more = ap (λ t. cond t (Some there) (fact_at (with_fact facts ix fact) ix)) (ap is_eq e) ∙ more

here : (facts : IndexedFacts) (ix : ℕ) (fact : FactValue) → fact_at (with_fact facts ix fact) ix ≡ Some fact
here [] ix fact = ap (λ t. cond t (Some fact) None) ((is_at-Decides ix ix).1 refl)
here ((i, there) ∷ facts) ix fact = here_by facts ix i fact there (nat_cmp ix i) refl (here facts ix fact)

pub changes_there : (m : Memory) (fact : FactValue) (ix : ℕ) → ChangesOnly (fact_at m.network.facts) (fact_at (put_back ix fact m).network.facts) ix (Some fact)
changes_there m fact ix = record { here = here m.network.facts ix fact; others = λ q apart. elsewhere m.network.facts ix q fact (λ e. apart (sym e)) }

pub none_comes_after : (m : Memory) (fact : FactValue) (ix : ℕ) → NoneAfter m → ix ≤ m.last → NoneAfter (put_back ix fact m)
none_comes_after m fact ix none given = λ q above. elsewhere m.network.facts ix q fact (λ e. omega arith) ∙ none q above
