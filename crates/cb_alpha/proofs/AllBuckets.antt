-- What stands from one list of values on, before another, in one bucket after another.
use Rattle.std.proofs.Common.{◌≡◌, ◌≢◌, ◌∙◌, ◌+◌, ◌<◌, ◌≤◌, ◌++◌, ℕ, Bool, true, false, List, [], Option, Some, None, Ordering, Less, Equal, Greater, Contains, ap, arith, inl, inr, length, refl, subst, sym}
use Rattle.std.proofs.lemmas.Bool.{cases_eq, cases_lt}
use Rattle.std.proofs.lemmas.List.{get_or_past}
use Rattle.std.specs.Ordering.{ordering_reverse}
use Rattle.cb_alpha.proofs.Filings.{bucket_of, filed_in}
use Rattle.cb_alpha.proofs.Ranges.{AreOther, distinct, once_in, values_total}
use Rattle.cb_alpha.proofs.ValuesOrder.{values_level}
use Rattle.cb_alpha.specs.Buckets.{AreFirst, AreLast, AreWithin, Filing, IsFiledWith, IsWithin, values_at, values_cmp}
use Rattle.cb_alpha.specs.Internal.Numbered.{AreBest, IsAhead, filing}
use Rattle.cb_facts.specs.declared.value.Value.{Value}
use Rattle.cb_groups.specs.Groups.{AreMembers, Membership, group_of}
use Rattle.cb_matches.proofs.Lists.{chain_append, contains_in, in_contains, in_either, in_left, in_right}
use Rattle.cb_matches.specs.Chains.{Chain, In}

pub some_none : {A P : Type 0} {a : A} (o : Option A) → o ≡ Some a → o ≡ None → P
some_none {A} {P} {a} o e f = absurd (let no : Some a ≡ None = sym e ∙ f in cc)

none_some : {A P : Type 0} {a : A} → None ≡ Some a → P
none_some {A} {P} {a} e = absurd (let no : None ≡ Some a = e in cc)

pub same_some : {A : Type 0} {a b : A} (o : Option A) → o ≡ Some a → o ≡ Some b → a ≡ b
same_some {A} {a} {b} o e f = let both : Some a ≡ Some b = sym e ∙ f in cc

pub not_both : (b : Bool) → b ≡ true → b ≡ false → ⊥
not_both b t f = let no : true ≡ false = sym t ∙ f in cc

none_before : {n : ℕ} → n < 0 → ⊥
none_before l = omega (arith, l)

-- ---- the values that compare as is wanted

turned : (o : Ordering) → o ≡ Greater → ordering_reverse o ≡ Less
turned o e = ap ordering_reverse e

turned_back : (o : Ordering) → o ≡ Less → ordering_reverse o ≡ Greater
turned_back o e = ap ordering_reverse e

as_wanted : (wanted : Ordering) (a b c : List Value) → wanted ≢ Equal → values_cmp a b ≡ wanted → values_cmp b c ≡ wanted → values_cmp a c ≡ wanted
as_wanted Less a b c d e f = values_total.trans a b c e f
as_wanted Equal a b c d e f = absurd (d refl)
as_wanted Greater a b c d e f =
    let back : values_cmp c a ≡ Less = values_total.trans c b a (values_total.antisymm c b ∙ turned (values_cmp b c) f) (values_total.antisymm b a ∙ turned (values_cmp a b) e) in
    values_total.antisymm a c ∙ turned_back (values_cmp c a) back

level_unwanted : (wanted : Ordering) (vs ws : List Value) → wanted ≢ Equal → vs ≡ ws → values_cmp vs ws ≢ wanted
level_unwanted wanted vs ws d e h = d (sym h ∙ values_level vs ws e)

module _ (wanted : Ordering) (unequal : wanted ≢ Equal) (low high : List Value) where
  abbrev Best : (List Value → Type 0) → Option (List Value) → Type 0
  Best There best = AreBest wanted There low high best

  pub none_best : (vs : Filing) → Best (IsAhead vs 0) None
  none_best vs = record {
    within = λ ws e. none_some e;
    best_of = λ ws others e. none_some e;
    none = λ others e there w. none_before there.1;
  }

  -- where no more values are within the range
  pub best_stays : (There There' : List Value → Type 0) (best : Option (List Value)) → Best There best
      → ((ws : List Value) → There ws → There' ws) → ((ws : List Value) → There' ws → IsWithin low high ws → There ws) → Best There' best
  best_stays There There' best is to back = record {
    within = λ ws e. let it = is.within ws e in (it.0, to ws it.1);
    best_of = λ ws others e there w. is.best_of ws others e (back others there w) w;
    none = λ others e there w. is.none others e (back others there w) w;
  }

  module _ (vs : Filing) (k : ℕ) where
    weaker : (ws : List Value) → IsAhead vs k ws → IsAhead vs (k + 1) ws
    weaker ws h = let l = h.1 in (h.0, omega (arith, l), h.2)

    pub nothing_at : (best : Option (List Value)) → values_at vs k ≡ None → Best (IsAhead vs k) best → Best (IsAhead vs (k + 1)) best
    nothing_at best none is = best_stays (IsAhead vs k) (IsAhead vs (k + 1)) best is weaker (λ ws h w. elim (cases_eq h.0 k) as (λ _. IsAhead vs k ws) [
      | inl e ↦ some_none (values_at vs h.0) h.2 (ap (values_at vs) e ∙ none)
      | inr d ↦ let l = h.1 in (h.0, omega (arith, l, d), h.2)
    ])

    module _ (vals : List Value) (at : values_at vs k ≡ Some vals) where
      by_place : {P : Type 0} (ws : List Value) → IsAhead vs (k + 1) ws → (ws ≡ vals → P) → (IsAhead vs k ws → P) → P
      by_place {P} ws h last before = elim (cases_eq h.0 k) as (λ _. P) [
        | inl e ↦ last (same_some (values_at vs k) (ap (values_at vs) (sym e) ∙ h.2) at)
        | inr d ↦ let l = h.1 in before (h.0, omega (arith, l, d), h.2)
      ]

      last_ahead : IsAhead vs (k + 1) vals
      last_ahead = (k, omega (arith), at)

      pub not_within : (best : Option (List Value)) → (IsWithin low high vals → ⊥) → Best (IsAhead vs k) best → Best (IsAhead vs (k + 1)) best
      not_within best out is = best_stays (IsAhead vs k) (IsAhead vs (k + 1)) best is weaker
          (λ ws h w. by_place ws h (λ e. absurd (out (subst (IsWithin low high) e w))) (λ before. before))

      -- these are better than the best before
      taken : IsWithin low high vals → ((others : List Value) → IsAhead vs k others → IsWithin low high others → values_cmp others vals ≢ wanted) → Best (IsAhead vs (k + 1)) (Some vals)
      taken here better = record {
        within = λ ws e. subst (λ it. IsWithin low high it × IsAhead vs (k + 1) it) (same_some (Some vals) refl e) (here, last_ahead);
        best_of = λ ws others e there w. subst (λ it. values_cmp others it ≢ wanted) (same_some (Some vals) refl e)
            (by_place others there (λ s. level_unwanted wanted others vals unequal s) (λ before. better others before w));
        none = λ others e. some_none (Some vals) refl e;
      }

      pub first_taken : IsWithin low high vals → Best (IsAhead vs k) None → Best (IsAhead vs (k + 1)) (Some vals)
      first_taken here is = taken here (λ others before w. absurd (is.none others refl before w))

      pub better_taken : (best : List Value) → IsWithin low high vals → values_cmp vals best ≡ wanted → Best (IsAhead vs k) (Some best) → Best (IsAhead vs (k + 1)) (Some vals)
      better_taken best here better is = taken here (λ others before w h. is.best_of best others refl before w (as_wanted wanted others vals best unequal h better))

      pub best_kept : (best : List Value) → values_cmp vals best ≢ wanted → Best (IsAhead vs k) (Some best) → Best (IsAhead vs (k + 1)) (Some best)
      best_kept best worse is = record {
        within = λ ws e. let it = is.within ws e in (it.0, weaker ws it.1);
        best_of = λ ws others e there w. by_place others there
            (λ s. subst (λ it. values_cmp others it ≢ wanted) (same_some (Some best) refl e) (subst (λ it. values_cmp it best ≢ wanted) (sym s) worse))
            (λ before. is.best_of ws others e before w);
        none = λ others e. some_none (Some best) refl e;
      }

  -- all were gone through
  pub best_at_end : (vs : Filing) (bound : ℕ) (best : Option (List Value)) → length vs ≤ bound → Best (IsAhead vs bound) best → Best (IsFiledWith vs) best
  best_at_end vs bound best long is = best_stays (IsAhead vs bound) (IsFiledWith vs) best is (λ ws h. (h.0, h.2)) (λ ws h w. ahead ws h)
    where
      ahead : (ws : List Value) → IsFiledWith vs ws → IsAhead vs bound ws
      ahead ws h = elim (cases_lt h.0 bound) as (λ _. IsAhead vs bound ws) [
        | inl l ↦ (h.0, l, h.1)
        | inr l ↦ some_none (values_at vs h.0) h.1 (get_or_past vs h.0 None (omega (arith, l, long)))
      ]

-- the least and the greatest
module _ (There : List Value → Type 0) (low high : List Value) (best : Option (List Value)) where
  pub best_first : AreBest Less There low high best → AreFirst There low high best
  best_first is = record { within = is.within; least = is.best_of; none = is.none }

  pub best_last : AreBest Greater There low high best → AreLast There low high best
  best_last is = record { within = is.within; greatest = is.best_of; none = is.none }

-- ---- the members

module _ (vs : Filing) (ms : Membership) (low high : List Value) where
  -- this one stands in a bucket before this number, with values within the range
  abbrev StandsAhead : ℕ → ℕ → Type 0
  StandsAhead bound i = (n : ℕ) × (n < bound) × (group_of ms i ≡ Some n) × (ws : List Value) × (values_at vs n ≡ Some ws) × IsWithin low high ws

  -- these are those
  pub record AreMembersAhead (bound : ℕ) (found : List ℕ) : Type 0 where
    pub are : (i : ℕ) → In i found → StandsAhead bound i
    pub all : (i : ℕ) → StandsAhead bound i → In i found
    pub once : Chain AreOther found

  pub none_ahead : AreMembersAhead 0 []
  none_ahead = record {
    are = λ i h. absurd h;
    all = λ i h. absurd (none_before h.1);
    once = tt;
  }

  module _ (k : ℕ) (found : List ℕ) (was : AreMembersAhead k found) where
    stood : (i : ℕ) → StandsAhead k i → StandsAhead (k + 1) i
    stood i h = let l = h.1 in (h.0, omega (arith, l), h.2, h.3, h.4, h.5)

    -- no member is in the bucket of this number, with values within the range
    pub none_more : ((ws : List Value) → values_at vs k ≡ Some ws → IsWithin low high ws → ⊥) → AreMembersAhead (k + 1) found
    none_more none = record {
      are = λ i h. stood i (was.are i h);
      all = λ i h. elim (cases_eq h.0 k) as (λ _. In i found) [
        | inl e ↦ absurd (none h.3 (ap (values_at vs) (sym e) ∙ h.4) h.5)
        | inr d ↦ let l = h.1 in was.all i (h.0, omega (arith, l, d), h.2, h.3, h.4, h.5)
      ];
      once = was.once;
    }

    pub bucket_more : (ws : List Value) (more : List ℕ) → values_at vs k ≡ Some ws → IsWithin low high ws → AreMembers ms k more → AreMembersAhead (k + 1) (found ++ more)
    bucket_more ws more at here members = record {
      are = λ i h. elim (in_either i found more h) as (λ _. StandsAhead (k + 1) i) [
        | inl before ↦ stood i (was.are i before)
        | inr now ↦ (k, omega (arith), (members.are i).0 (in_contains i more now), ws, at, here)
      ];
      all = λ i h. elim (cases_eq h.0 k) as (λ _. In i (found ++ more)) [
        | inl e ↦ in_right i found more (contains_in i more ((members.are i).1 (h.2 ∙ ap Some e)))
        | inr d ↦ let l = h.1 in in_left i found more (was.all i (h.0, omega (arith, l, d), h.2, h.3, h.4, h.5))
      ];
      once = chain_append AreOther found more was.once (once_in more members.once) (λ i j h now same.
          let before = was.are i h in
          let l = before.1 in
          let one : before.0 ≡ k = same_some (group_of ms i) before.2 (ap (group_of ms) same ∙ (members.are j).0 (in_contains j more now)) in
          absurd (omega (arith, l, one)));
    }

  -- all were gone through
  pub all_ahead : (bound : ℕ) (found : List ℕ) → length vs ≤ bound → AreMembersAhead bound found → AreWithin (filing vs ms) low high found
  all_ahead bound found long was = record {
    are = λ i. (
      λ h. let it = was.are i (contains_in i found h) in (it.3, filed_in vs ms i it.0 it.2 ∙ it.4, it.5),
      λ h.
          let b = bucket_of vs ms i h.0 h.1 in
          elim (cases_lt b.0 bound) as (λ _. Contains found i) [
            | inl l ↦ in_contains i found (was.all i (b.0, l, b.1, h.0, b.2, h.2))
            | inr l ↦ some_none (values_at vs b.0) b.2 (get_or_past vs b.0 None (omega (arith, l, long)))
          ],
    );
    once = distinct found was.once;
  }
