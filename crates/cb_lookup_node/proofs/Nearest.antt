-- The facts whose last value is the nearest integer below that of others, or above.
use Rattle.std.proofs.Common.{◌≡◌, ◌≢◌, ◌∙◌, ◌↔◌, ◌++◌, ◌∷◌, ◌<ℤ◌, ℤ, suc, true, false, List, [], Option, Some, None, ap, arith, length, refl, subst, sym, int_le, int_lt}
use Rattle.std.proofs.lemmas.Int.{ints}
use Rattle.std.specs.Ordering.{int_cmp, ordering_then}
use Rattle.std.specs.declared.cmp.Ordering.{Ordering}
use Rattle.std.specs.declared.cmp.Ordering.TheVariants.{Less, Equal, Greater}
use Rattle.std.proofs.lemmas.Cmp.{int_ranked}
use Rattle.std.specs.Ordering.{MatchOrdering}
use Rattle.cb_alpha.specs.AlphaMemories.{AlphaMemoryValue, live}
use Rattle.cb_alpha.specs.Buckets.{IsWithin, values_cmp}
use Rattle.cb_facts.specs.declared.value.Value.{Value}
use Rattle.cb_facts.specs.declared.value.Value.TheVariants.{Symbol, Str, Int, Fact, Multi}
use Rattle.cb_fit.specs.declared.join_fields.JoinField.{JoinField}
use Rattle.cb_lookup_node.proofs.Among.{strip, tail, within_from, within_is, within_prefix}
use Rattle.cb_lookup_node.proofs.InOrder.{integer_ends}
use Rattle.cb_lookup_node.specs.LookupNodes.{HasOne, ends_in_integer}
use Rattle.cb_lookup_node.specs.Order.{IsNearest, Place, first, before, behind, last, is_from, place_among}

not_le : (a b : ℤ) → int_le a b ≡ false → int_lt b a ≡ true
not_le a b h = grind (arith, ints, h)

lt_not_le : (a b : ℤ) → int_lt b a ≡ true → int_le a b ≡ false
lt_not_le a b h = grind (arith, ints, h)

-- what an integer is when it isn't behind another, or not before it
not_greater : (x y : ℤ) → ordering_then (int_cmp x y) Equal ≢ Greater → int_lt y x ≡ false
not_greater x y h = by (int_cmp x y) (int_ranked x y (int_cmp x y) refl) h
  where
    by : (o : Ordering) → MatchOrdering o (x <ℤ y) (x ≡ y) (y <ℤ x) → ordering_then o Equal ≢ Greater → int_lt y x ≡ false
    by Less m apart = grind (arith, ints, m)
    by Equal m apart = grind (arith, ints, m)
    by Greater m apart = absurd (apart refl)

not_less : (x y : ℤ) → ordering_then (int_cmp x y) Equal ≢ Less → int_lt x y ≡ false
not_less x y h = by (int_cmp x y) (int_ranked x y (int_cmp x y) refl) h
  where
    by : (o : Ordering) → MatchOrdering o (x <ℤ y) (x ≡ y) (y <ℤ x) → ordering_then o Equal ≢ Less → int_lt x y ≡ false
    by Less m apart = absurd (apart refl)
    by Equal m apart = grind (arith, ints, m)
    by Greater m apart = grind (arith, ints, m)

-- a value between an integer and another
up_to : (x w : ℤ) (u : Value) → values_cmp (Int x ∷ []) (u ∷ []) ≢ Greater → values_cmp (u ∷ []) (Int w ∷ []) ≡ Less → (y : ℤ) × (u ≡ Int y) × (int_lt y x ≡ false)
up_to x w (Int y) h l = (y, refl, not_greater x y h)
up_to x w (Symbol a) h l = absurd (h refl)
up_to x w (Str a) h l = absurd (h refl)
up_to x w (Fact a) h l = absurd (let no : Greater ≡ Less = l in cc)
up_to x w (Multi a) h l = absurd (let no : Greater ≡ Less = l in cc)

down_to : (x w : ℤ) (u : Value) → values_cmp (Int x ∷ []) (u ∷ []) ≢ Less → values_cmp (u ∷ []) (tail (behind w)) ≢ Less → (y : ℤ) × (u ≡ Int y) × (int_lt x y ≡ false)
down_to x w (Int y) h l = (y, refl, not_less x y h)
down_to x w (Symbol a) h l = absurd (l refl)
down_to x w (Str a) h l = absurd (l refl)
down_to x w (Fact a) h l = absurd (h refl)
down_to x w (Multi a) h l = absurd (h refl)

module _ (fields : List JoinField) (alpha : AlphaMemoryValue) (known : List Value) (w : ℤ) (many : (values : List Value) → HasOne fields (live alpha) values → length values ≡ suc (length known))
    (found result : Option (List Value)) (kept : (values : List Value) → (result ≡ Some values) ↔ ((found ≡ Some values) × (ends_in_integer values ≡ true))) where
  module _ (low high : Place) (within : (values : List Value) → found ≡ Some values → IsWithin (place_among known low) (place_among known high) values × HasOne fields (live alpha) values)
      (none : (others : List Value) → found ≡ None → HasOne fields (live alpha) others → IsWithin (place_among known low) (place_among known high) others → ⊥) where
    found_is : (values : List Value) → result ≡ Some values → (y : ℤ) × (values ≡ known ++ Int y ∷ []) × HasOne fields (live alpha) values × (is_from low y ≡ true) × (is_from high y ≡ false)
    found_is values e =
        let k = (kept values).0 e in
        let h = within values k.0 in
        let y = within_is known low high values (many values h.1) k.1 h.0 in
        (y.0, y.1, h.1, y.2, y.3)

    -- where such a fact is, one is found that begins so
    one_found : (x : ℤ) → HasOne fields (live alpha) (known ++ Int x ∷ []) → is_from low x ≡ true → is_from high x ≡ false
        → (u : Value) × (found ≡ Some (known ++ u ∷ [])) × IsWithin (place_among known low) (place_among known high) (known ++ u ∷ [])
    one_found x has l h = by found refl
      where
        by : (o : Option (List Value)) → found ≡ o → (u : Value) × (found ≡ Some (known ++ u ∷ [])) × IsWithin (place_among known low) (place_among known high) (known ++ u ∷ [])
        by None e = absurd (none (known ++ Int x ∷ []) e has (within_from known low high x l h))
        by (Some r) e =
            let k = within r e in
            let u = within_prefix known low high r (many r k.1) k.0 in
            (u.0, e ∙ ap Some u.1, subst (IsWithin (place_among known low) (place_among known high)) u.1 k.0)

    integer_found : (u : Value) (y : ℤ) → found ≡ Some (known ++ u ∷ []) → u ≡ Int y → result ≡ Some (known ++ Int y ∷ [])
    integer_found u y e is = (kept (known ++ Int y ∷ [])).1 (e ∙ ap (λ (it : Value). Some (known ++ it ∷ [])) is, integer_ends known y)

  pub below_is : ((values : List Value) → found ≡ Some values → IsWithin known (known ++ Int w ∷ []) values × HasOne fields (live alpha) values)
      → ((values others : List Value) → found ≡ Some values → HasOne fields (live alpha) others → IsWithin known (known ++ Int w ∷ []) others → values_cmp others values ≢ Greater)
      → ((others : List Value) → found ≡ None → HasOne fields (live alpha) others → IsWithin known (known ++ Int w ∷ []) others → ⊥) → IsNearest true fields alpha known w result
  below_is within greatest none = record {
    is = λ values e. let f = found_is first (before w) within none values e in (f.0, f.1, f.2, not_le w f.0 f.4);
    nearest = λ x has lt.
        let f = one_found first (before w) within none x has refl (lt_not_le w x lt) in
        let against = greatest (known ++ f.0 ∷ []) (known ++ Int x ∷ []) f.1 has (within_from known first (before w) x refl (lt_not_le w x lt)) in
        let y = up_to x w f.0 (subst (λ (o : Ordering). o ≢ Greater) (strip known (Int x ∷ []) (f.0 ∷ [])) against) (sym (strip known (f.0 ∷ []) (Int w ∷ [])) ∙ f.2.below) in
        (y.0, integer_found first (before w) within none f.0 y.0 f.1 y.1, y.2);
  }

  pub above_is : ((values : List Value) → found ≡ Some values → IsWithin (place_among known (behind w)) (place_among known last) values × HasOne fields (live alpha) values)
      → ((values others : List Value) → found ≡ Some values → HasOne fields (live alpha) others → IsWithin (place_among known (behind w)) (place_among known last) others → values_cmp others values ≢ Less)
      → ((others : List Value) → found ≡ None → HasOne fields (live alpha) others → IsWithin (place_among known (behind w)) (place_among known last) others → ⊥) → IsNearest false fields alpha known w result
  above_is within least none = record {
    is = λ values e. let f = found_is (behind w) last within none values e in (f.0, f.1, f.2, f.3);
    nearest = λ x has lt.
        let f = one_found (behind w) last within none x has lt refl in
        let against = least (known ++ f.0 ∷ []) (known ++ Int x ∷ []) f.1 has (within_from known (behind w) last x lt refl) in
        let y = down_to x w f.0 (subst (λ (o : Ordering). o ≢ Less) (strip known (Int x ∷ []) (f.0 ∷ [])) against)
        (subst (λ (o : Ordering). o ≢ Less) (strip known (f.0 ∷ []) (tail (behind w))) f.2.above) in
        (y.0, integer_found (behind w) last within none f.0 y.0 f.1 y.1, y.2);
  }
