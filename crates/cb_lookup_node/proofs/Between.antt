-- Who sees a fact, and none of others, by the places where those who see one are parted from those who don't.
use Rattle.std.proofs.Common.{◌≡◌, ◌∙◌, ◌↔◌, ◌++◌, ◌∷◌, ℕ, ℤ, suc, Bool, true, false, List, [], Option, Some, None, ap, arith, cond, length, not, refl, subst, sym, int_le, int_lt}
use Rattle.std.proofs.lemmas.Int.{ints}
use Rattle.std.proofs.lemmas.List.{length-append}
use Rattle.cb_alpha.specs.Buckets.{AreWithin, Filing, IsWithin, values_at}
use Rattle.cb_beta.proofs.Members.{contains_in, in_contains}
use Rattle.cb_facts.specs.declared.value.Value.{Value}
use Rattle.cb_facts.specs.declared.value.Value.TheVariants.{Int}
use Rattle.cb_fit.specs.Comparisons.{compares}
use Rattle.cb_fit.specs.declared.comparison.Comparison.{Comparison}
use Rattle.cb_fit.specs.declared.comparison.Comparison.TheVariants.{Less, LessOrEqual, Greater, GreaterOrEqual, Equal, NotEqual, Same, Differs}
use Rattle.cb_fit.specs.declared.join_fields.JoinField.{JoinField}
use Rattle.cb_lookup_node.proofs.Among.{within_from, within_is}
use Rattle.cb_lookup_node.proofs.InOrder.{ends_same, ends_with}
use Rattle.cb_lookup_node.specs.Internal.{IsFiledBy, MayBeFiled}
use Rattle.cb_lookup_node.specs.LookupNodes.{AreInOrder}
use Rattle.cb_lookup_node.specs.Order.{AreOneMore, IsFarEnd, Place, SeesFirst, is_from, is_lower, is_parted_behind, open_end, parting, place_among}
use Rattle.cb_matches.specs.Chains.{In}
use Rattle.cb_lookup_node.specs.LookupNodes.{is_by_order}

-- whether who has v stands on the side of a place on which the fact is seen
abbrev pub on_side : Bool → Bool → Bool
on_side lower from = cond lower from (not from)

lt_not_le : (v w : ℤ) → int_lt v w ≡ not (int_le w v)
lt_not_le v w = grind (arith, ints)

le_not_lt : (v w : ℤ) → int_le v w ≡ not (int_lt w v)
le_not_lt v w = grind (arith, ints)

pub by_place : (c : Comparison) → is_by_order c ≡ true → (w v : ℤ) → compares c (Int w) (Int v) ≡ on_side (is_lower c) (is_from (parting (is_parted_behind c) w) v)
by_place Less o w v = refl
by_place LessOrEqual o w v = refl
by_place Greater o w v = lt_not_le v w
by_place GreaterOrEqual o w v = le_not_lt v w
by_place Equal o w v = absurd (cc)
by_place NotEqual o w v = absurd (cc)
by_place Same o w v = absurd (cc)
by_place Differs o w v = absurd (cc)

no_side : (lower : Bool) (v : ℤ) → on_side lower (is_from (open_end lower) v) ≡ false
no_side true v = refl
no_side false v = refl

not_both : (b : Bool) → b ≡ true → b ≡ false → ⊥
not_both true t f = absurd (cc)
not_both false t f = absurd (cc)

is_not : (b : Bool) → (b ≡ true → ⊥) → b ≡ false
is_not true h = absurd (h refl)
is_not false h = refl

-- the sides by what stands behind places
near_side : (lower b : Bool) → on_side lower b ≡ true → b ≡ lower
near_side true b h = h
near_side false true h = absurd (cc)
near_side false false h = refl

side_near : (lower b : Bool) → b ≡ lower → on_side lower b ≡ true
side_near true b h = h
side_near false true h = absurd (cc)
side_near false false h = refl

far_side : (lower b : Bool) → (on_side lower b ≡ true → ⊥) → b ≡ not lower
far_side true true h = absurd (h refl)
far_side true false h = refl
far_side false true h = refl
far_side false false h = absurd (h refl)

side_far : (lower b : Bool) → b ≡ not lower → on_side lower b ≡ true → ⊥
side_far true true h t = absurd (cc)
side_far true false h t = absurd (cc)
side_far false true h t = absurd (cc)
side_far false false h t = absurd (cc)

module _ (c : Comparison) (order : is_by_order c ≡ true) (known : List Value) (w : ℤ) (ws : List Value) (ws_are : ws ≡ known ++ Int w ∷ []) (others : Option (List Value)) (more : AreOneMore known others)
    (place : List Value) (far_end : IsFarEnd c known others place) where
  abbrev near : Place
  near = parting (is_parted_behind c) w

  -- the far place: who stands on its side sees the others
  far : (e : Place) × (place ≡ place_among known e)
      × ((v : ℤ) → (on_side (is_lower c) (is_from e v) ≡ true) ↔ ((us : List Value) × (others ≡ Some us) × AreInOrder c us (known ++ Int v ∷ [])))
  far = by others refl
    where
      by : (o : Option (List Value)) → others ≡ o
          → (e : Place) × (place ≡ place_among known e)
          × ((v : ℤ) → (on_side (is_lower c) (is_from e v) ≡ true) ↔ ((us : List Value) × (others ≡ Some us) × AreInOrder c us (known ++ Int v ∷ [])))
      by None e = (
        open_end (is_lower c),
        far_end.none e,
        λ v. (
          λ t. absurd (not_both (on_side (is_lower c) (is_from (open_end (is_lower c)) v)) t (no_side (is_lower c) v)),
          λ h. absurd (let no : None ≡ Some h.0 = sym e ∙ h.1 in cc),
        ),
      )
      by (Some us) e =
          let y = more us e in
          let is : others ≡ Some (known ++ Int y.0 ∷ []) = e ∙ ap Some y.1 in (
            parting (is_parted_behind c) y.0,
            far_end.some y.0 is,
            λ v. (
              λ t. (known ++ Int y.0 ∷ [], is, (known, Int y.0, Int v, refl, refl, by_place c order y.0 v ∙ t)),
              λ h.
                  let same : h.0 ≡ known ++ Int y.0 ∷ [] = same_one (sym h.1 ∙ is) in
                  let z = ends_with c h.0 (known ++ Int v ∷ []) order h.2 known y.0 same in
                  sym (by_place c order y.0 v) ∙ (ap (λ (it : Value). compares c (Int y.0) it) (end_of z.1) ∙ z.2),
            ),
          )
        where
          same_one : {A : Type 0} {a b : A} → Some a ≡ Some b → a ≡ b
          same_one {A} {a} {b} d = cc

          end_of : {v z : ℤ} → known ++ Int v ∷ [] ≡ known ++ Int z ∷ [] → Int v ≡ Int z
          end_of {v} {z} d = (ends_same known known (Int v) (Int z) d).1

  module _ (fields : List JoinField) (many : length ws ≡ length fields) (filing : Filing) (filed : (member : ℕ) (vs : List Value) → values_at filing member ≡ Some vs → MayBeFiled (Some c) fields vs) where
    as_many : (vs : List Value) → length vs ≡ length fields → length vs ≡ suc (length known)
    as_many vs e = omega (arith, e, many, ap length ws_are, length-append known (Int w ∷ []))

    sees_to : (vs : List Value) → MayBeFiled (Some c) fields vs → SeesFirst c ws others vs → (v : ℤ) × (vs ≡ known ++ Int v ∷ []) × (is_from near v ≡ is_lower c) × (is_from far.0 v ≡ not (is_lower c))
    sees_to vs may h =
        let z = ends_with c ws vs order h.0 known w ws_are in (
          z.0,
          z.1,
          near_side (is_lower c) (is_from near z.0) (sym (by_place c order w z.0) ∙ z.2),
          far_side (is_lower c) (is_from far.0 z.0) (λ t. let k = (far.2 z.0).0 t in h.1 k.0 k.1 (subst (AreInOrder c k.0) (sym z.1) k.2)),
        )

    to_sees : (vs : List Value) (v : ℤ) → vs ≡ known ++ Int v ∷ [] → is_from near v ≡ is_lower c → is_from far.0 v ≡ not (is_lower c) → SeesFirst c ws others vs
    to_sees vs v are n f = (
      (known, Int w, Int v, ws_are, are, by_place c order w v ∙ side_near (is_lower c) (is_from near v) n),
      λ us e k. side_far (is_lower c) (is_from far.0 v) f ((far.2 v).1 (us, e, subst (AreInOrder c us) are k)),
    )

    module _ (all : List ℕ) where
      pub lower_are : is_lower c ≡ true → AreWithin filing (place_among known near) place all → (n : ℕ) → In n all ↔ IsFiledBy (SeesFirst c ws others) filing n
      lower_are low these n = (
        λ h.
            let k = (these.are n).0 (in_contains all n h) in
            let may = filed n k.0 k.1 in
            let v = within_is known near far.0 k.0 (as_many k.0 may.0) may.1 (subst (λ (it : List Value). IsWithin (place_among known near) it k.0) far.1 k.2) in
            (k.0, k.1, to_sees k.0 v.0 v.1 (v.2 ∙ sym low) (v.3 ∙ ap not (sym low))),
        λ h.
            let v = sees_to h.0 (filed n h.0 h.1) h.2 in
            let inside = within_from known near far.0 v.0 (v.2 ∙ low) (v.3 ∙ ap not low) in
            contains_in all n ((these.are n).1 (h.0, h.1, subst (λ (it : List Value). IsWithin (place_among known near) it h.0) (sym far.1) (subst (IsWithin (place_among known near) (place_among known far.0)) (sym v.1) inside))),
      )

      pub upper_are : is_lower c ≡ false → AreWithin filing place (place_among known near) all → (n : ℕ) → In n all ↔ IsFiledBy (SeesFirst c ws others) filing n
      upper_are up these n = (
        λ h.
            let k = (these.are n).0 (in_contains all n h) in
            let may = filed n k.0 k.1 in
            let v = within_is known far.0 near k.0 (as_many k.0 may.0) may.1 (subst (λ (it : List Value). IsWithin it (place_among known near) k.0) far.1 k.2) in
            (k.0, k.1, to_sees k.0 v.0 v.1 (v.3 ∙ sym up) (v.2 ∙ ap not (sym up))),
        λ h.
            let v = sees_to h.0 (filed n h.0 h.1) h.2 in
            let inside = within_from known far.0 near v.0 (v.3 ∙ ap not up) (v.2 ∙ up) in
            contains_in all n ((these.are n).1 (h.0, h.1, subst (λ (it : List Value). IsWithin it (place_among known near) h.0) (sym far.1) (subst (IsWithin (place_among known far.0) (place_among known near)) (sym v.1) inside))),
      )
