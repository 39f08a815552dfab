-- Who sees a fact, and who sees one alone, by the nearest facts below it and above.
use Rattle.std.proofs.Common.{◌≡◌, ◌∙◌, ◌↔◌, ◌⊎◌, ◌++◌, ◌∷◌, ℕ, ℤ, suc, Bool, true, false, List, [], Option, Some, None, ap, arith, inl, inr, length, not, refl, subst, sym, int_le, int_lt}
use Rattle.std.proofs.lemmas.Int.{ints}
use Rattle.std.proofs.lemmas.List.{length-append}
use Rattle.cb_alpha.proofs.ReadFacts.{same_some}
use Rattle.cb_alpha.specs.AlphaMemories.{AlphaMemoryValue, HasFactWith, live, values_in}
use Rattle.cb_alpha.specs.Buckets.{Filing}
use Rattle.cb_alpha.specs.Turning.{HasJoin}
use Rattle.cb_facts.specs.declared.value.Value.{Value}
use Rattle.cb_facts.specs.declared.value.Value.TheVariants.{Int}
use Rattle.cb_fit.specs.Comparisons.{compares}
use Rattle.cb_fit.specs.declared.comparison.Comparison.{Comparison}
use Rattle.cb_fit.specs.declared.comparison.Comparison.TheVariants.{Less, LessOrEqual, Greater, GreaterOrEqual, Equal, NotEqual, Same, Differs}
use Rattle.cb_fit.specs.declared.join_fields.JoinField.{JoinField}
use Rattle.cb_lookup_node.proofs.InOrder.{begins_with, ends_same, ends_with, in_order_begins}
use Rattle.cb_lookup_node.proofs.Looked.{same_values}
use Rattle.cb_lookup_node.proofs.Seen.{as_many_fields, has_fact}
use Rattle.cb_lookup_node.specs.Internal.{IsFiledBy}
use Rattle.cb_lookup_node.specs.LookupNodes.{AreInOrder, HasOne, HasSeen, ends_in_integer}
use Rattle.cb_lookup_node.specs.Order.{AreOneMore, HasBeyond, IsNearest, IsSeenAlone, OtherHas, SeesFirst, beyond, is_lower, takes_equal}
use Rattle.cb_matches.proofs.Growth.{Fact}
use Rattle.cb_matches.specs.Chains.{In}
use Rattle.cb_lookup_node.specs.LookupNodes.{is_by_order}

-- facts that a join finds have the values of the fields, as many as there are
module _ (alpha : AlphaMemoryValue) (join : ℕ) (js : List JoinField) (has : HasJoin alpha join js) where
  pub to_one : (vs : List Value) → HasFactWith alpha has.0 vs → HasOne js (live alpha) vs
  to_one vs h = (h.0, sym (same_values has.0 js (live alpha h.0) has.2) ∙ h.1)

  pub of_one : (vs : List Value) → HasOne js (live alpha) vs → HasFactWith alpha has.0 vs
  of_one vs h = (h.0, same_values has.0 js (live alpha h.0) has.2 ∙ h.1)

pub facts_as_many : (js : List JoinField) (facts : ℕ → Option Fact) (ws known : List Value) (w : ℤ) → ws ≡ known ++ Int w ∷ [] → length ws ≡ length js → (vs : List Value) → HasOne js facts vs
    → length vs ≡ suc (length known)
facts_as_many js facts ws known w are many vs h =
    let f = has_fact js (facts h.0) vs h.1 in
    let e = as_many_fields f.0.1.content js vs f.2 in
    omega (arith, e, many, ap length are, length-append known (Int w ∷ []))

-- integers, and who sees them
same_seen : (c : Comparison) → is_by_order c ≡ true → takes_equal c ≡ true → (w : ℤ) → compares c (Int w) (Int w) ≡ true
same_seen Less o t w = absurd (cc)
same_seen LessOrEqual o t w = grind (arith, ints)
same_seen Greater o t w = absurd (cc)
same_seen GreaterOrEqual o t w = grind (arith, ints)
same_seen Equal o t w = absurd (cc)
same_seen NotEqual o t w = absurd (cc)
same_seen Same o t w = absurd (cc)
same_seen Differs o t w = absurd (cc)

beyond_seen : (c : Comparison) → is_by_order c ≡ true → (y w : ℤ) → beyond (is_lower c) y w ≡ true → compares c (Int y) (Int w) ≡ true
beyond_seen Less o y w h = h
beyond_seen LessOrEqual o y w h = grind (arith, ints, h)
beyond_seen Greater o y w h = h
beyond_seen GreaterOrEqual o y w h = grind (arith, ints, h)
beyond_seen Equal o y w h = absurd (cc)
beyond_seen NotEqual o y w h = absurd (cc)
beyond_seen Same o y w h = absurd (cc)
beyond_seen Differs o y w h = absurd (cc)

le_or : (x w : ℤ) → int_le x w ≡ true → (int_lt x w ≡ true) ⊎ (x ≡ w)
le_or x w h = by (int_lt x w) refl
  where
    by : (b : Bool) → int_lt x w ≡ b → (int_lt x w ≡ true) ⊎ (x ≡ w)
    by true e = inl e
    by false e = inr (grind (arith, ints, e, h))

seen_beyond : (c : Comparison) → is_by_order c ≡ true → (x w : ℤ) → compares c (Int x) (Int w) ≡ true → (beyond (is_lower c) x w ≡ true) ⊎ ((x ≡ w) × (takes_equal c ≡ true))
seen_beyond Less o x w h = inl h
seen_beyond LessOrEqual o x w h = elim (le_or x w h) as (λ _. (int_lt x w ≡ true) ⊎ ((x ≡ w) × (true ≡ true))) [ inl l ↦ inl l | inr e ↦ inr (e, refl) ]
seen_beyond Greater o x w h = inl h
seen_beyond GreaterOrEqual o x w h = elim (le_or w x h) as (λ _. (int_lt w x ≡ true) ⊎ ((x ≡ w) × (true ≡ true))) [ inl l ↦ inl l | inr e ↦ inr (sym e, refl) ]
seen_beyond Equal o x w h = absurd (cc)
seen_beyond NotEqual o x w h = absurd (cc)
seen_beyond Same o x w h = absurd (cc)
seen_beyond Differs o x w h = absurd (cc)

-- who sees a fact sees one that isn't less good
seen_more : (c : Comparison) → is_by_order c ≡ true → (x y v : ℤ) → beyond (not (is_lower c)) y x ≡ false → compares c (Int x) (Int v) ≡ true → compares c (Int y) (Int v) ≡ true
seen_more Less o x y v h k = grind (arith, ints, h, k)
seen_more LessOrEqual o x y v h k = grind (arith, ints, h, k)
seen_more Greater o x y v h k = grind (arith, ints, h, k)
seen_more GreaterOrEqual o x y v h k = grind (arith, ints, h, k)
seen_more Equal o x y v h k = absurd (cc)
seen_more NotEqual o x y v h k = absurd (cc)
seen_more Same o x y v h k = absurd (cc)
seen_more Differs o x y v h k = absurd (cc)

beyond_not : (lower : Bool) (y w : ℤ) → beyond lower y w ≡ true → beyond (not lower) y w ≡ false
beyond_not true y w h = grind (arith, ints, h)
beyond_not false y w h = grind (arith, ints, h)

itself_not : (lower : Bool) (w : ℤ) → beyond lower w w ≡ true → ⊥
itself_not true w h = absurd (grind (arith, ints, h))
itself_not false w h = absurd (grind (arith, ints, h))

side_of : (lower : Bool) (x w : ℤ) → (x ≡ w) ⊎ ((beyond lower x w ≡ true) ⊎ (beyond (not lower) x w ≡ true))
side_of lower x w = by lower (int_lt x w) (int_lt w x) refl refl
  where
    by : (lower b c : Bool) → int_lt x w ≡ b → int_lt w x ≡ c → (x ≡ w) ⊎ ((beyond lower x w ≡ true) ⊎ (beyond (not lower) x w ≡ true))
    by true true c e d = inr (inl e)
    by true false true e d = inr (inr d)
    by true false false e d = inl (grind (arith, ints, e, d))
    by false true c e d = inr (inr e)
    by false false true e d = inr (inl d)
    by false false false e d = inl (grind (arith, ints, e, d))

int_is : {x y : ℤ} → Int x ≡ Int y → x ≡ y
int_is {x} {y} e = cc

-- nothing is filed by what can't be
pub none_filed_by : (Such : List Value → Type 0) (filing : Filing) → ((vs : List Value) → Such vs → ⊥) → (n : ℕ) → In n [] ↔ IsFiledBy Such filing n
none_filed_by Such filing none n = (λ h. absurd h, λ h. absurd (none h.0 h.2))

-- the same by another word
pub filed_by_so : (One Other : List Value → Type 0) (filing : Filing) (all : List ℕ) → ((n : ℕ) → In n all ↔ IsFiledBy One filing n) → ((vs : List Value) → One vs → Other vs) → ((vs : List Value) → Other vs → One vs)
    → (n : ℕ) → In n all ↔ IsFiledBy Other filing n
filed_by_so One Other filing all are to from n = (λ h. let k = (are n).0 h in (k.0, k.1, to k.0 k.2), λ h. (are n).1 (h.0, h.1, from h.0 h.2))

module _ (c : Comparison) (order : is_by_order c ≡ true) (js : List JoinField) (alpha : AlphaMemoryValue) (ws : List Value) where
  -- what doesn't end in an integer is in no order
  pub not_ordered : ends_in_integer ws ≡ false → (vs : List Value) → AreInOrder c ws vs → ⊥
  not_ordered f vs h = both (in_order_begins c ws vs order h)
    where
      both : ends_in_integer ws ≡ true → ⊥
      both t = absurd (let no : true ≡ false = sym t ∙ f in cc)

  module _ (known : List Value) (w : ℤ) (are : ws ≡ known ++ Int w ∷ []) where
    -- the facts that these values see
    pub equal_sees : takes_equal c ≡ true → OtherHas js alpha None ws → HasSeen (Some c) js (live alpha) ws
    equal_sees t h = (ws, (known, Int w, Int w, are, are, same_seen c order t w), (h.0, h.1))

    pub best_sees : HasBeyond (is_lower c) js alpha known w → HasSeen (Some c) js (live alpha) ws
    best_sees k = (known ++ Int k.0 ∷ [], (known, Int k.0, Int w, refl, are, beyond_seen c order k.0 w k.2), k.1)

    pub seen_best : ((takes_equal c ≡ true) × OtherHas js alpha None ws → ⊥) → HasSeen (Some c) js (live alpha) ws → HasBeyond (is_lower c) js alpha known w
    seen_best apart (os, h, has) =
        let b = begins_with c os ws order h known w are in
        elim (seen_beyond c order b.0 w b.2) as (λ _. HasBeyond (is_lower c) js alpha known w) [
          | inl l ↦ (b.0, subst (HasOne js (live alpha)) b.1 has, l)
          | inr e ↦
              let same : os ≡ ws = b.1 ∙ (ap (λ (it : ℤ). known ++ Int it ∷ []) e.0 ∙ sym are) in
              absurd (apart (e.1, (has.0, has.1 ∙ ap Some same, none_is has.0)))
        ]
      where
        none_is : (k : ℕ) → None ≡ Some k → ⊥
        none_is k d = absurd (cc)

    module _ (number : Option ℕ) (its : (n : ℕ) → number ≡ Some n → values_in js (live alpha n) ≡ Some ws) where
      -- a fact with another integer is another
      other_has : (lower : Bool) (y : ℤ) → beyond lower y w ≡ true → HasOne js (live alpha) (known ++ Int y ∷ []) → OtherHas js alpha number (known ++ Int y ∷ [])
      other_has lower y b h = (
        h.0,
        h.1,
        λ e.
            let same : ws ≡ known ++ Int y ∷ [] = same_some (values_in js (live alpha h.0)) (its h.0 e) h.1 in
            let one : w ≡ y = int_is (ends_same known known (Int w) (Int y) (sym are ∙ same)).1 in
            itself_not lower y (subst (λ it. beyond lower y it ≡ true) one b),
      )

      pub another_alone : OtherHas js alpha number ws → (vs : List Value) → IsSeenAlone c js alpha number ws vs → ⊥
      another_alone h vs k = k.1 ws h k.0

      pub better_alone : HasBeyond (is_lower c) js alpha known w → (vs : List Value) → IsSeenAlone c js alpha number ws vs → ⊥
      better_alone b vs k =
          let v = ends_with c ws vs order k.0 known w are in
          k.1 (known ++ Int b.0 ∷ []) (other_has (is_lower c) b.0 b.2 b.1) (known, Int b.0, Int v.0, refl, v.1, seen_more c order w b.0 v.0 (beyond_not (is_lower c) b.0 w b.2) v.2)

      module _ (next : Option (List Value)) (near : IsNearest (not (is_lower c)) js alpha known w next) where
        pub one_more : AreOneMore known next
        one_more us e = let k = near.is us e in (k.0, k.1)

        pub alone_first : (vs : List Value) → IsSeenAlone c js alpha number ws vs → SeesFirst c ws next vs
        alone_first vs k = (
          k.0,
          λ us e h.
              let y = near.is us e in
              k.1 (known ++ Int y.0 ∷ []) (other_has (not (is_lower c)) y.0 y.3 (subst (HasOne js (live alpha)) y.1 y.2)) (subst (λ (it : List Value). AreInOrder c it vs) y.1 h),
        )

        pub first_alone : (HasBeyond (is_lower c) js alpha known w → ⊥) → (OtherHas js alpha number ws → ⊥) → (vs : List Value) → SeesFirst c ws next vs
            → IsSeenAlone c js alpha number ws vs
        first_alone none apart vs h = (h.0, others)
          where
            others : (os : List Value) → OtherHas js alpha number os → AreInOrder c os vs → ⊥
            others os has k =
                let v = ends_with c ws vs order h.0 known w are in
                let x = begins_with c os vs order k known v.0 v.1 in
                let one : HasOne js (live alpha) (known ++ Int x.0 ∷ []) = (has.0, has.1 ∙ ap Some x.1) in
                elim (side_of (is_lower c) x.0 w) as (λ _. ⊥) [
                  | inl e ↦ apart (has.0, has.1 ∙ (ap Some (x.1 ∙ (ap (λ (it : ℤ). known ++ Int it ∷ []) e ∙ sym are))), has.2)
                  | inr s ↦ elim s as (λ _. ⊥) [
                    | inl b ↦ none (x.0, one, b)
                    | inr b ↦ let z = near.nearest x.0 one b in h.1 (known ++ Int z.0 ∷ []) z.1 (known, Int z.0, Int v.0, refl, v.1, seen_more c order x.0 z.0 v.0 z.2 x.2)
                  ]
                ]
