-- What the witnesses are after a change, and whom it turned.
use Rattle.std.proofs.Common.{◌≡◌, ◌≢◌, ◌∙◌, ◌⊎◌, ◌↔◌, ℕ, Bool, false, List, [], Option, Some, None, ap, filter, inl, inr, refl, subst, sym}
use Rattle.std.proofs.lemmas.Bool.{false_from_ne_true}
use Rattle.cb_alpha.proofs.ReadFacts.{all_live, live_read, number_is, read_live, read_were, same_some, some_none, were_read}
use Rattle.cb_alpha.specs.AlphaMemories.{AlphaMemoryValue, AreFactsWith, candidate_in, live, values_in}
use Rattle.cb_alpha.specs.Buckets.{AreWithValues, values_at}
use Rattle.cb_alpha.specs.JoinValues.{variable_values}
use Rattle.cb_alpha.specs.Turning.{HasJoin, is_number, were_in}
use Rattle.cb_beta.proofs.Members.{apart_of, by_in, contains_in, in_contains}
use Rattle.cb_facts.specs.declared.value.Value.{Value}
use Rattle.cb_fit.specs.declared.comparison.ComparedField.{ComparedField}
use Rattle.cb_fit.specs.declared.join_fields.JoinField.{JoinField}
use Rattle.cb_groups.specs.Groups.{AreMembers, Releases, group_of}
use Rattle.cb_lookup_node.proofs.Looked.{found_by_fields, some_member}
use Rattle.cb_lookup_node.proofs.Placed.{none_replaced}
use Rattle.cb_lookup_node.proofs.Seen.{has_fact}
use Rattle.cb_lookup_node.proofs.Staying.{fact_so}
use Rattle.cb_lookup_node.specs.Internal.{AreReplaced, GiveValuesOfGone, HasGained, HasItsFacts, HasLost, HasWitness, IsOut, IsPlaced, IsSeenFirst}
use Rattle.cb_lookup_node.specs.LookupNodes.{HasPlace, HaveWitnesses, Passes, SeesFact, SeesSome, compares_with}
use Rattle.cb_lookup_node.specs.declared.witnesses.Witnesses.{Witnesses}
use Rattle.cb_matches.proofs.Growth.{Fact}
use Rattle.cb_matches.proofs.Lists.{by_test, chain_filter, filter_in, in_filter}
use Rattle.cb_matches.specs.Chains.{Chain, In}
use Rattle.cb_matches.specs.Matches.{Partial}

abbrev Keeping : Type 1
Keeping = ℕ → Option ℕ → Option (List Value) → Type 0

none_is_some : {A P : Type 0} {a : A} (o : Option A) → o ≡ None → o ≡ Some a → P
none_is_some o none e = some_none o e none

group_or : (o : Option ℕ) → (o ≡ None) ⊎ ((k : ℕ) × (o ≡ Some k))
group_or None = inl refl
group_or (Some k) = inr (k, refl)

-- the place of one, by what it is
module _ (cs : List ComparedField) (js : List JoinField) (facts : ℕ → Option Fact) (m : Partial) where
  unseen_place : (o : Option ℕ) (v : Option (List Value)) → o ≡ None → HasPlace cs js facts m o v → (v ≡ variable_values js m.env) × ((k : ℕ) → SeesFact cs js facts m k → ⊥)
  unseen_place None v e h = h
  unseen_place (Some k) v e h = none_is_some (Some k) e refl

  seen_place : (o : Option ℕ) (v : Option (List Value)) (k : ℕ) → o ≡ Some k → HasPlace cs js facts m o v → SeesFact cs js facts m k
  seen_place o v k e h = let p : HasPlace cs js facts m (Some k) v = subst (λ it. HasPlace cs js facts m it v) e h in p.0

  filed_place : (o : Option ℕ) (v : Option (List Value)) (vs : List Value) → v ≡ Some vs → HasPlace cs js facts m o v → (variable_values js m.env ≡ Some vs) × ((k : ℕ) → SeesFact cs js facts m k → ⊥)
  filed_place None v vs e h = (sym h.0 ∙ e, h.1)
  filed_place (Some k) v vs e h = some_none v e h.1

module _ (cs : List ComparedField) (js : List JoinField) (at : ℕ → Partial) (There : ℕ → Type 0) (facts : ℕ → Option Fact) (w w' : Witnesses) (xs : List ℕ) (Now : Keeping) (replaced : AreReplaced w w' xs Now) where
  same_place : (facts' : ℕ → Option Fact) (n : ℕ) → (In n xs → ⊥) → HasPlace cs js facts' (at n) (group_of w.given n) (values_at w.unseen n) → HasPlace cs js facts' (at n) (group_of w'.given n) (values_at w'.unseen n)
  same_place facts' n apart h =
      subst (λ o. HasPlace cs js facts' (at n) o (values_at w'.unseen n)) (sym (replaced.given n apart))
      (subst (λ v. HasPlace cs js facts' (at n) (group_of w.given n) v) (sym (replaced.unseen n apart)) h)

  -- where none is replaced
  unreplaced : ((n : ℕ) → In n xs → ⊥) → HaveWitnesses cs js w at There facts → HaveWitnesses cs js w' at There facts
  unreplaced none kept = record {
    there = λ n h. same_place facts n (none n) (kept.there n h);
    given_there = λ n k e. kept.given_there n k (sym (replaced.given n (none n)) ∙ e);
    unseen_there = λ n vs e. kept.unseen_there n vs (sym (replaced.unseen n (none n)) ∙ e);
  }

-- what is taken out is not there any more
pub witnesses_but : (cs : List ComparedField) (js : List JoinField) (at : ℕ → Partial) (There : ℕ → Type 0) (facts : ℕ → Option Fact) (w w' : Witnesses) (gone : List ℕ) → AreReplaced w w' gone IsOut
    → HaveWitnesses cs js w at There facts → HaveWitnesses cs js w' at (λ n. There n × (In n gone → ⊥)) facts
witnesses_but cs js at There facts w w' gone left kept = record {
  there = λ n h. same_place cs js at There facts w w' gone IsOut left facts n h.1 (kept.there n h.0);
  given_there = λ n k e. elim (by_in n gone) as (λ _. There n × (In n gone → ⊥)) [
    | inl h ↦ some_none (group_of w'.given n) e (left.here n h).0
    | inr apart ↦ (kept.given_there n k (sym (left.given n apart) ∙ e), apart)
  ];
  unseen_there = λ n vs e. elim (by_in n gone) as (λ _. There n × (In n gone → ⊥)) [
    | inl h ↦ some_none (values_at w'.unseen n) e (left.here n h).1
    | inr apart ↦ (kept.unseen_there n vs (sym (left.unseen n apart) ∙ e), apart)
  ];
}

-- what comes is kept as well
pub witnesses_and : (cs : List ComparedField) (js : List JoinField) (at : ℕ → Partial) (There All : ℕ → Type 0) (facts : ℕ → Option Fact) (w w' : Witnesses) (come : List ℕ)
    → ((n : ℕ) → There n ⊎ In n come → All n) → ((n : ℕ) → All n → There n ⊎ In n come) → AreReplaced w w' come (IsPlaced cs js facts at) → HaveWitnesses cs js w at There facts → HaveWitnesses cs js w' at All facts
witnesses_and cs js at There All facts w w' come to from placed kept = record {
  there = λ n h. elim (by_in n come) as (λ _. HasPlace cs js facts (at n) (group_of w'.given n) (values_at w'.unseen n)) [
    | inl k ↦ placed.here n k
    | inr apart ↦ same_place cs js at There facts w w' come (IsPlaced cs js facts at) placed facts n apart (kept.there n (was n apart (from n h)))
  ];
  given_there = λ n k e. elim (by_in n come) as (λ _. All n) [
    | inl h ↦ to n (inr h)
    | inr apart ↦ to n (inl (kept.given_there n k (sym (placed.given n apart) ∙ e)))
  ];
  unseen_there = λ n vs e. elim (by_in n come) as (λ _. All n) [
    | inl h ↦ to n (inr h)
    | inr apart ↦ to n (inl (kept.unseen_there n vs (sym (placed.unseen n apart) ∙ e)))
  ];
}
  where
    was : (n : ℕ) → (In n come → ⊥) → There n ⊎ In n come → There n
    was n apart (inl h) = h
    was n apart (inr k) = absurd (apart k)

module _ (cs : List ComparedField) (js : List JoinField) (alpha : AlphaMemoryValue) (at : ℕ → Partial) where
  abbrev Was : Partial → ℕ → Type 0
  Was m k = SeesFact cs js (were_in alpha) m k

  abbrev Is : Partial → ℕ → Type 0
  Is m k = SeesFact cs js (live alpha) m k

  was_read : (m : Partial) (k : ℕ) → Was m k → were_in alpha k ≡ candidate_in alpha.candidates k
  was_read m k (vs, is, has, so) = let f = has_fact js (were_in alpha k) vs has in f.1 ∙ sym (were_read alpha k f.0 f.1).0

  is_read : (m : Partial) (k : ℕ) → Is m k → live alpha k ≡ candidate_in alpha.candidates k
  is_read m k (vs, is, has, so) = let f = has_fact js (live alpha k) vs has in f.1 ∙ sym (live_read alpha k f.0 f.1).0

  was_is : (m : Partial) (k : ℕ) → is_number alpha.gone k ≡ false → Was m k → Is m k
  was_is m k still h = fact_so cs js (were_in alpha) (live alpha) m m refl k (was_read m k h ∙ sym (read_live alpha k still)) h

  is_was : (m : Partial) (k : ℕ) → is_number alpha.come k ≡ false → Is m k → Was m k
  is_was m k old h = fact_so cs js (live alpha) (were_in alpha) m m refl k (is_read m k h ∙ sym (read_were alpha k old)) h

  module _ (There : ℕ → Type 0) (w w' : Witnesses) (kept : HaveWitnesses cs js w at There (were_in alpha)) where
    -- a fact went, and none came
    module _ (lost : List ℕ) (left : HasLost cs js alpha at w w' lost) (none : alpha.come ≡ None) where
      old_fact : (k : ℕ) → is_number alpha.come k ≡ false
      old_fact k = ap (λ o. is_number o k) none

      still : (n : ℕ) → (In n left.members → ⊥) → (k : ℕ) → group_of w.given n ≡ Some k → is_number alpha.gone k ≡ false
      still n apart k e = false_from_ne_true (is_number alpha.gone k) (λ t. apart ((left.are n).1 (k, number_is alpha.gone k t, e)))

      stays : (m : Partial) (o : Option ℕ) (v : Option (List Value)) → ((k : ℕ) → o ≡ Some k → is_number alpha.gone k ≡ false) → HasPlace cs js (were_in alpha) m o v → HasPlace cs js (live alpha) m o v
      stays m (Some k) v so h = (was_is m k (so k refl) h.0, h.1)
      stays m None v so h = (h.0, λ k sees. h.1 k (is_was m k (old_fact k) sees))

      kept_lost : HaveWitnesses cs js w' at There (live alpha)
      kept_lost = record {
        there = λ n h. elim (by_in n left.members) as (λ _. HasPlace cs js (live alpha) (at n) (group_of w'.given n) (values_at w'.unseen n)) [
          | inl k ↦ left.placed.here n k
          | inr apart ↦
              same_place cs js at There (live alpha) w w' left.members (IsPlaced cs js (live alpha) at) left.placed (live alpha) n apart
              (stays (at n) (group_of w.given n) (values_at w.unseen n) (still n apart) (kept.there n h))
        ];
        given_there = λ n k e. elim (by_in n left.members) as (λ _. There n) [
          | inl h ↦ let had = (left.are n).0 h in kept.given_there n had.0 had.2
          | inr apart ↦ kept.given_there n k (sym (left.placed.given n apart) ∙ e)
        ];
        unseen_there = λ n vs e. elim (by_in n left.members) as (λ _. There n) [
          | inl h ↦ let had = (left.are n).0 h in kept.given_there n had.0 had.2
          | inr apart ↦ kept.unseen_there n vs (sym (left.placed.unseen n apart) ∙ e)
        ];
      }

      had_gone : (n : ℕ) → There n → SeesSome cs js (were_in alpha) (at n) → (SeesSome cs js (live alpha) (at n) → ⊥) → In n left.members
      had_gone n there had none_now = elim (group_or (group_of w.given n)) as (λ _. In n left.members) [
        | inl e ↦ absurd ((unseen_place cs js (were_in alpha) (at n) (group_of w.given n) (values_at w.unseen n) e (kept.there n there)).1 had.0 had.1)
        | inr g ↦
            let sees = seen_place cs js (were_in alpha) (at n) (group_of w.given n) (values_at w.unseen n) g.0 g.1 (kept.there n there) in
            by_test (is_number alpha.gone g.0)
            (λ t. (left.are n).1 (g.0, number_is alpha.gone g.0 t, g.1))
            (λ f. absurd (none_now (g.0, was_is (at n) g.0 f sees)))
      ]

      losing : (n : ℕ) → In n lost ↔ (There n × (SeesSome cs js (were_in alpha) (at n) × (SeesSome cs js (live alpha) (at n) → ⊥)))
      losing n = (
        λ h.
            let l = (left.losing n).0 h in
            let had = (left.are n).0 l.0 in
            let there = kept.given_there n had.0 had.2 in
            (there, ((had.0, seen_place cs js (were_in alpha) (at n) (group_of w.given n) (values_at w.unseen n) had.0 had.2 (kept.there n there)), l.1)),
        λ h. (left.losing n).1 (had_gone n h.0 h.1.0 h.1.1, h.1.1),
      )

    -- a fact came, and none went
    module _ (gained : List ℕ) (given : HasGained cs js alpha at w w' gained) (none : alpha.gone ≡ None) where
      live_fact : (k : ℕ) → is_number alpha.gone k ≡ false
      live_fact k = ap (λ o. is_number o k) none

      -- one that has no witness and sees the fact that came
      first : (n : ℕ) → There n → group_of w.given n ≡ None → (k : ℕ) → Is (at n) k → In n gained ⊎ Was (at n) k
      first n there alone k sees = by_test (is_number alpha.come k)
          (λ t.
          let place = unseen_place cs js (were_in alpha) (at n) (group_of w.given n) (values_at w.unseen n) alone (kept.there n there) in
          let read = is_read (at n) k sees in
          inl ((given.gaining n).1 (k, sees.0, number_is alpha.come k t, ap (values_in js) (sym read) ∙ sees.2, place.0 ∙ sees.1, ap (λ it. compares_with cs it (at n)) (sym read) ∙ sees.3)))
          (λ f. inr (is_was (at n) k f sees))

      -- what it sees then
      now_seen : (n : ℕ) (seen : IsSeenFirst cs js alpha at w n) → There n → Is (at n) seen.0
      now_seen n (k, vs, is, has, filed, so) there =
          let place = filed_place cs js (were_in alpha) (at n) (group_of w.given n) (values_at w.unseen n) vs filed (kept.there n there) in
          let read : live alpha k ≡ candidate_in alpha.candidates k = all_live alpha k none in
          (vs, place.0, ap (values_in js) read ∙ has, ap (λ it. compares_with cs it (at n)) read ∙ so)

      there_first : (n : ℕ) → IsSeenFirst cs js alpha at w n → There n
      there_first n (k, vs, is, has, filed, so) = kept.unseen_there n vs filed

      placed : (n : ℕ) → There n → In n gained ⊎ (In n gained → ⊥) → HasPlace cs js (live alpha) (at n) (group_of w'.given n) (values_at w'.unseen n)
      placed n there (inl h) =
          let seen = (given.gaining n).0 h in
          let now = given.given.here n h in
          subst (λ o. HasPlace cs js (live alpha) (at n) o (values_at w'.unseen n)) (sym (now.0 ∙ seen.2)) (now_seen n seen there, now.1)
      placed n there (inr apart) =
          same_place cs js at There (live alpha) w w' gained (λ i o v. (o ≡ alpha.come) × (v ≡ None)) given.given (live alpha) n apart
          (stays (group_of w.given n) (values_at w.unseen n) refl (kept.there n there))
        where
          stays : (o : Option ℕ) (v : Option (List Value)) → group_of w.given n ≡ o → HasPlace cs js (were_in alpha) (at n) o v → HasPlace cs js (live alpha) (at n) o v
          stays (Some k) v e h = (was_is (at n) k (live_fact k) h.0, h.1)
          stays None v e h = (h.0, λ k sees. elim (first n there e k sees) as (λ _. ⊥) [ inl i ↦ apart i | inr was ↦ h.1 k was ])

      kept_gained : HaveWitnesses cs js w' at There (live alpha)
      kept_gained = record {
        there = λ n h. placed n h (by_in n gained);
        given_there = λ n k e. elim (by_in n gained) as (λ _. There n) [
          | inl h ↦ there_first n ((given.gaining n).0 h)
          | inr apart ↦ kept.given_there n k (sym (given.given.given n apart) ∙ e)
        ];
        unseen_there = λ n vs e. elim (by_in n gained) as (λ _. There n) [
          | inl h ↦ there_first n ((given.gaining n).0 h)
          | inr apart ↦ kept.unseen_there n vs (sym (given.given.unseen n apart) ∙ e)
        ];
      }

      gaining : (n : ℕ) → In n gained ↔ (There n × ((SeesSome cs js (were_in alpha) (at n) → ⊥) × SeesSome cs js (live alpha) (at n)))
      gaining n = (
        λ h.
            let seen = (given.gaining n).0 h in
            let there = there_first n seen in
            (there, (none_was n seen there, (seen.0, now_seen n seen there))),
        λ h. elim (group_or (group_of w.given n)) as (λ _. In n gained) [
          | inl e ↦ elim (first n h.0 e h.1.1.0 h.1.1.1) as (λ _. In n gained) [ inl i ↦ i | inr was ↦ absurd (h.1.0 (h.1.1.0, was)) ]
          | inr g ↦ absurd (h.1.0 (g.0, seen_place cs js (were_in alpha) (at n) (group_of w.given n) (values_at w.unseen n) g.0 g.1 (kept.there n h.0)))
        ],
      )
        where
          none_was : (i : ℕ) → IsSeenFirst cs js alpha at w i → There i → SeesSome cs js (were_in alpha) (at i) → ⊥
          none_was i (k, vs, is, has, filed, so) there had =
              (filed_place cs js (were_in alpha) (at i) (group_of w.given i) (values_at w.unseen i) vs filed (kept.there i there)).1 had.0 had.1

  -- both after another, of which one changes nothing
  pub record AreTurned (There : ℕ → Type 0) (new : Witnesses) (lost gained : List ℕ) : Type 0 where
    pub kept : HaveWitnesses cs js new at There (live alpha)
    pub losing : (n : ℕ) → In n lost ↔ (There n × (SeesSome cs js (were_in alpha) (at n) × (SeesSome cs js (live alpha) (at n) → ⊥)))
    pub gaining : (n : ℕ) → In n gained ↔ (There n × ((SeesSome cs js (were_in alpha) (at n) → ⊥) × SeesSome cs js (live alpha) (at n)))

  pub turned : (There : ℕ → Type 0) (w w₁ w₂ : Witnesses) (lost gained : List ℕ) → (alpha.gone ≡ None) ⊎ (alpha.come ≡ None) → HaveWitnesses cs js w at There (were_in alpha) → HasLost cs js alpha at w w₁ lost
      → HasGained cs js alpha at w₁ w₂ gained → AreTurned There w₂ lost gained
  turned There w w₁ w₂ lost gained (inr none) kept left given = record {
    kept = unreplaced cs js at There (live alpha) w₁ w₂ gained (λ i o v. (o ≡ alpha.come) × (v ≡ None)) given.given nobody (kept_lost There w w₁ kept lost left none);
    losing = losing There w w₁ kept lost left none;
    gaining = λ n. (λ h. absurd (nobody n h), λ h. absurd (h.1.0 (h.1.1.0, is_was (at n) h.1.1.0 (ap (λ o. is_number o h.1.1.0) none) h.1.1.1)));
  }
    where
      nobody : (n : ℕ) → In n gained → ⊥
      nobody n h = let seen = (given.gaining n).0 h in none_is_some alpha.come none seen.2
  turned There w w₁ w₂ lost gained (inl none) kept left given =
      let kept₁ = unreplaced cs js at There (were_in alpha) w w₁ left.members (IsPlaced cs js (live alpha) at) left.placed nobody kept in
      record {
        kept = kept_gained There w₁ w₂ kept₁ gained given none;
        losing = λ n. (λ h. absurd (nobody n ((left.losing n).0 h).0), λ h. absurd (h.1.1 (h.1.0.0, was_is (at n) h.1.0.0 (ap (λ o. is_number o h.1.0.0) none) h.1.0.1)));
        gaining = gaining There w₁ w₂ kept₁ gained given none;
      }
    where
      nobody : (n : ℕ) → In n left.members → ⊥
      nobody n h = let had = (left.are n).0 h in none_is_some alpha.gone none had.1

  -- those whose witness went gave the values that it has
  pub gave_values : (There : ℕ → Type 0) (w : Witnesses) → HaveWitnesses cs js w at There (were_in alpha) → GiveValuesOfGone js alpha at w
  gave_values There w kept n k gone e =
      let sees = seen_place cs js (were_in alpha) (at n) (group_of w.given n) (values_at w.unseen n) k e (kept.there n (kept.given_there n k e)) in
      (sees.0, sees.1, ap (values_in js) (sym (was_read (at n) k sees)) ∙ sees.2)

  module _ (w : Witnesses) (gone : ℕ) (xs : List ℕ) (is : alpha.gone ≡ Some gone) (members : AreMembers w.given gone xs) (gave : GiveValuesOfGone js alpha at w) where
    -- so the facts with its values are those of each
    pub its_facts : (join : ℕ) (has : HasJoin alpha join js) (vs : List Value) (ys : List ℕ) → values_in js (candidate_in alpha.candidates gone) ≡ Some vs → AreFactsWith alpha has.0 vs ys
        → (n : ℕ) → In n xs → HasItsFacts js alpha vs ys (at n)
    its_facts join has vs ys found these n h =
        let own = gave n gone is ((members.are n).0 (in_contains xs n h)) in
        (own.1 ∙ ap Some (same_some (values_in js (candidate_in alpha.candidates gone)) own.2 found), found_by_fields alpha join js has vs ys these)

    -- and where it has none, it was the witness of nobody
    pub no_values : (xs ≡ [] → ⊥) → values_in js (candidate_in alpha.candidates gone) ≡ None → ⊥
    no_values some none =
        let n = some_member xs some in
        let own = gave n.0 gone is ((members.are n.0).0 (in_contains xs n.0 n.1)) in
        some_none (values_in js (candidate_in alpha.candidates gone)) own.2 none

  -- the fact that went leaves its partial matches
  pub lost_so : (w w₁ w' : Witnesses) (gone : ℕ) (xs lost : List ℕ) → alpha.gone ≡ Some gone → AreMembers w.given gone xs → Releases w.given w₁.given gone → w₁.unseen ≡ w.unseen
      → AreReplaced w₁ w' xs (IsPlaced cs js (live alpha) at) → ((n : ℕ) → In n lost ↔ (In n xs × Passes false (SeesSome cs js (live alpha) (at n))))
      → (Chain (λ (i : ℕ) (j : ℕ). i ≢ j) xs → Chain (λ (i : ℕ) (j : ℕ). i ≢ j) lost) → HasLost cs js alpha at w w' lost
  lost_so w w₁ w' gone xs lost is members released same placed are once = record {
    members = xs;
    are = λ n. (
      λ h. (gone, is, (members.are n).0 (in_contains xs n h)),
      λ h. contains_in xs n ((members.are n).1 (h.2 ∙ ap Some (same_some alpha.gone h.1 is))),
    );
    placed = record {
      here = placed.here;
      given = λ n apart. placed.given n apart ∙ released.others n (λ e. apart (contains_in xs n ((members.are n).1 e)));
      unseen = λ n apart. placed.unseen n apart ∙ ap (λ it. values_at it n) same;
    };
    losing = are;
    once = once (apart_of xs members.once);
  }

  -- it was the witness of nobody
  pub nobody_lost : (w w₁ : Witnesses) (gone : ℕ) (xs : List ℕ) → alpha.gone ≡ Some gone → AreMembers w.given gone xs → Releases w.given w₁.given gone → w₁.unseen ≡ w.unseen → xs ≡ []
      → HasLost cs js alpha at w w₁ xs
  nobody_lost w w₁ gone xs is members released same none =
      lost_so w w₁ w₁ gone xs xs is members released same
      (subst (λ (it : List ℕ). AreReplaced w₁ w₁ it (IsPlaced cs js (live alpha) at)) (sym none) (none_replaced w₁ (IsPlaced cs js (live alpha) at)))
      (λ n. (λ h. absurd (subst (In n) none h), λ h. h.0)) (λ once. once)

  pub none_lost : (w : Witnesses) → alpha.gone ≡ None → HasLost cs js alpha at w w []
  none_lost w none = record {
    members = [];
    are = λ n. (λ h. absurd h, λ h. none_is_some alpha.gone none h.1);
    placed = record { here = λ n h. absurd h; given = λ n h. refl; unseen = λ n h. refl };
    losing = λ n. (λ h. absurd h, λ h. h.0);
    once = tt;
  }

  -- the fact that came is given to those that see it
  pub gained_so : (w w' : Witnesses) (come : ℕ) (vs : List Value) (xs gained : List ℕ) → alpha.come ≡ Some come → values_in js (candidate_in alpha.candidates come) ≡ Some vs → AreWithValues w.unseen vs xs
      → gained ≡ filter (λ n. compares_with cs (candidate_in alpha.candidates come) (at n)) xs → AreReplaced w w' gained (HasWitness come) → HasGained cs js alpha at w w' gained
  gained_so w w' come vs xs gained is has these all given = record {
    gaining = λ n. (
      λ h.
          let k = in_filter test n xs (subst (In n) all h) in
          (come, vs, is, has, (these.are n).0 (in_contains xs n k.0), k.1),
      λ h.
          let (k, us, here, have, filed, so) = h in
          let one : k ≡ come = same_some alpha.come here is in
          let mine : us ≡ vs = same_some (values_in js (candidate_in alpha.candidates come)) (ap (λ i. values_in js (candidate_in alpha.candidates i)) (sym one) ∙ have) has in
          subst (In n) (sym all)
          (filter_in test n xs (contains_in xs n ((these.are n).1 (filed ∙ ap Some mine))) (ap (λ i. compares_with cs (candidate_in alpha.candidates i) (at n)) (sym one) ∙ so)),
    );
    given = record {
      here = λ n h. let now = given.here n h in (now.0 ∙ sym is, now.1);
      given = given.given;
      unseen = given.unseen;
    };
    once = subst (Chain (λ (i : ℕ) (j : ℕ). i ≢ j)) (sym all) (chain_filter (λ (i : ℕ) (j : ℕ). i ≢ j) test xs (apart_of xs these.once));
  }
    where
      test : ℕ → Bool
      test n = compares_with cs (candidate_in alpha.candidates come) (at n)

  none_given : (w : Witnesses) → ((n : ℕ) → IsSeenFirst cs js alpha at w n → ⊥) → HasGained cs js alpha at w w []
  none_given w none = record {
    gaining = λ n. (λ h. absurd h, λ h. absurd (none n h));
    given = record { here = λ n h. absurd h; given = λ n h. refl; unseen = λ n h. refl };
    once = tt;
  }

  pub none_gained : (w : Witnesses) → alpha.come ≡ None → HasGained cs js alpha at w w []
  none_gained w none = none_given w (λ n h. none_is_some alpha.come none h.2)

  pub nobody_gained : (w : Witnesses) → ((n : ℕ) → values_at w.unseen n ≡ None) → HasGained cs js alpha at w w []
  nobody_gained w none = none_given w (λ n h. none_is_some (values_at w.unseen n) (none n) h.4)

  pub no_values_gained : (w : Witnesses) (come : ℕ) → alpha.come ≡ Some come → values_in js (candidate_in alpha.candidates come) ≡ None → HasGained cs js alpha at w w []
  no_values_gained w come is none = none_given w (λ n h. none_is_some (values_in js (candidate_in alpha.candidates come)) none
      (ap (λ i. values_in js (candidate_in alpha.candidates i)) (same_some alpha.come is h.2) ∙ h.3))
