-- What one change does to a list, and to the list behind a pattern.
use Rattle.std.proofs.Common.{◌≡◌, ℕ, Bool, true, List, [], ◌∷◌, Option, ◌⊎◌, filter, inl, inr, sym, ◌∙◌, ap, subst}
use Rattle.cb_constraints.specs.PatternValues.{PatternValue}
use Rattle.cb_facts.specs.FactLists.{IndexedFacts}
use Rattle.cb_nodes.proofs.Grown.{moved, regrown, same_parents}
use Rattle.cb_nodes.specs.Changes.{Added, FactMoves, Moves, PartialMoves}
use Rattle.cb_matches.proofs.Growth.{Fact, is_grown}
use Rattle.cb_matches.proofs.Lists.{filter_in, in_filter}
use Rattle.cb_matches.specs.Chains.{In}
use Rattle.cb_matches.specs.Matches.{Partial, next}

-- the other way round
pub swapped : {A K : Type 0} (key : A → K) (old new gone come : List A) → Moves key old new gone come → Moves key new old come gone
swapped key old new gone come c = record {
  stays = c.came;
  came = c.stays;
  gone_old = c.come_new;
  come_new = c.gone_old;
  gone_apart = c.come_apart;
  come_apart = c.gone_apart;
}

-- nothing goes or comes
pub none_moves : {A K : Type 0} (key : A → K) (xs : List A) → Moves key xs xs [] []
none_moves key xs = record {
  stays = λ z h. inl h;
  came = λ z h. inl h;
  gone_old = λ z h. absurd h;
  come_new = λ z h. absurd h;
  gone_apart = λ z y h. absurd h;
  come_apart = λ z y h. absurd h;
}

only_one : {A : Type 0} (z f : A) → In z (f ∷ []) → z ≡ f
only_one z f (inl e) = e
only_one z f (inr h) = absurd h

-- one fact more
pub fact_more : (f : Fact) (fs fs' : IndexedFacts) → Added f fs fs' → FactMoves fs fs' [] (f ∷ [])
fact_more f fs fs' added = record {
  stays = λ z h. inl (added.was z h);
  came = λ z h. elim (added.is z h) as (λ _. In z fs ⊎ In z (f ∷ [])) [ inl i ↦ inl i | inr e ↦ inr (inl e) ];
  gone_old = λ z h. absurd h;
  come_new = λ z h. subst (λ it. In it fs') (sym (only_one z f h)) added.there;
  gone_apart = λ z y h. absurd h;
  come_apart = λ z y h i e. added.absent y i (sym e ∙ ap (λ it. it.0) (only_one z f h));
}

-- behind a pattern: what goes or comes there, from what goes or comes before it and of the facts
module _ (x : Option (List ℕ)) (p : PatternValue) where
  module _ (fs fs' gone_facts : IndexedFacts) (old new gone : List Partial) where
    abbrev pub behind : Partial → Type 0
    behind z = In z (next x p fs gone) ⊎ In z (next x p gone_facts old)

    pub splits : ((g : Fact) → In g fs → In g fs' ⊎ In g gone_facts) → ((m : Partial) → In m old → In m new ⊎ In m gone)
        → (z : Partial) → In z (next x p fs old) → In z (next x p fs' new) ⊎ behind z
    splits facts lists z h =
        let k = is_grown x p fs old z h in
        elim (lists k.parent k.parent_in) as (λ _. In z (next x p fs' new) ⊎ behind z) [
          | inr i ↦ inr (inl (regrown x p fs fs old gone z k i k.fact_in))
          | inl i ↦ elim (facts k.fact k.fact_in) as (λ _. In z (next x p fs' new) ⊎ behind z) [
            | inr j ↦ inr (inr (regrown x p fs gone_facts old old z k k.parent_in j))
            | inl j ↦ inl (regrown x p fs fs' old new z k i j)
          ]
        ]

    pub within : ((g : Fact) → In g gone_facts → In g fs) → ((m : Partial) → In m gone → In m old) → (z : Partial) → behind z → In z (next x p fs old)
    within facts lists z (inl h) = moved x p fs fs gone old (λ g i. i) lists z h
    within facts lists z (inr h) = moved x p gone_facts fs old old facts (λ m i. i) z h

    pub apart : ((g h : Fact) → In g gone_facts → In h fs' → g.0 ≡ h.0 → ⊥) → ((m l : Partial) → In m gone → In l new → m.parts ≡ l.parts → ⊥)
        → (z y : Partial) → behind z → In y (next x p fs' new) → z.parts ≡ y.parts → ⊥
    apart facts lists z y (inl h) i e =
        let k = is_grown x p fs gone z h in
        let l = is_grown x p fs' new y i in
        lists k.parent l.parent k.parent_in l.parent_in (same_parents x p fs fs' gone new z y k l e).0
    apart facts lists z y (inr h) i e =
        let k = is_grown x p gone_facts old z h in
        let l = is_grown x p fs' new y i in
        facts k.fact l.fact k.fact_in l.fact_in (same_parents x p gone_facts fs' old new z y k l e).1

  module _ (fs fs' gone_facts come_facts : IndexedFacts) (old new gone come : List Partial) (facts : FactMoves fs fs' gone_facts come_facts) (c : PartialMoves old new gone come) where
    -- of which only those are kept that pass a test
    pub place_moves : (q : Partial → Bool) (gone' come' : List Partial)
        → ((z : Partial) → In z gone' → behind fs fs' gone_facts old new gone z × (q z ≡ true))
        → ((z : Partial) → behind fs fs' gone_facts old new gone z → q z ≡ true → In z gone')
        → ((z : Partial) → In z come' → behind fs' fs come_facts new old come z)
        → ((z : Partial) → behind fs' fs come_facts new old come z → In z come')
        → PartialMoves (filter q (next x p fs old)) (filter q (next x p fs' new)) gone' (filter q come')
    place_moves q gone' come' g_to g_from c_to c_from = record {
      stays = λ z h. let i = in_filter q z (next x p fs old) h in
          elim (splits fs fs' gone_facts old new gone facts.stays c.stays z i.0) as (λ _. In z (filter q (next x p fs' new)) ⊎ In z gone') [
            | inl j ↦ inl (filter_in q z (next x p fs' new) j i.1)
            | inr j ↦ inr (g_from z j i.1)
          ];
      came = λ z h. let i = in_filter q z (next x p fs' new) h in
          elim (splits fs' fs come_facts new old come facts.came c.came z i.0)
          as (λ _. In z (filter q (next x p fs old)) ⊎ In z (filter q come')) [
            | inl j ↦ inl (filter_in q z (next x p fs old) j i.1)
            | inr j ↦ inr (filter_in q z come' (c_from z j) i.1)
          ];
      gone_old = λ z h. let i = g_to z h in
          filter_in q z (next x p fs old) (within fs fs' gone_facts old new gone facts.gone_old c.gone_old z i.0) i.1;
      come_new = λ z h. let i = in_filter q z come' h in
          filter_in q z (next x p fs' new) (within fs' fs come_facts new old come facts.come_new c.come_new z (c_to z i.0)) i.1;
      gone_apart = λ z y h i e.
          apart fs fs' gone_facts old new gone facts.gone_apart c.gone_apart z y (g_to z h).0 (in_filter q y (next x p fs' new) i).0 e;
      come_apart = λ z y h i e.
          apart fs' fs come_facts new old come facts.come_apart c.come_apart z y
          (c_to z (in_filter q z come' h).0) (in_filter q y (next x p fs old) i).0 e;
    }
