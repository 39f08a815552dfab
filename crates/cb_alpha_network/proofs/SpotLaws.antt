-- What a change of the places of one relation keeps.
use Rattle.std.proofs.Common.{◌≡◌, ◌≢◌, ◌∙◌, ◌⊎◌, ◌∷◌, ℕ, zero, suc, true, not, List, [], Option, None, Some, ap, drop, filter, get_or, inl, inr, nat_eq, subst, sym}
use Rattle.std.proofs.lemmas.Bool.{false_from_ne_true}
use Rattle.std.proofs.lemmas.Map.Lookups.{exact_bytes}
use Rattle.std.specs.BTreeMap as tree
use Rattle.std.specs.BTreeMap.{get, is_at}
use Rattle.std.specs.Cmp.{Equal-is, unsigned_Decides}
use Rattle.cb_alpha_network.specs.Asked.{IsSpot, KeepsSpots, Spots, name_cmp}
use Rattle.cb_alpha_network.specs.declared.spots.Spot.{Spot}
use Rattle.cb_fit.specs.declared.field_place.FieldPlace.{FieldPlace}
use Rattle.cb_matches.proofs.Lists.{by_test, filter_in}
use Rattle.cb_matches.specs.Chains.{In}

pub one_answer : {A : Type 0} {a b : A} (o : Option A) → o ≡ Some a → o ≡ Some b → a ≡ b
one_answer {A} {a} {b} o e f = let both : Some a ≡ Some b = sym e ∙ f in cc

pub no_answer : {A P : Type 0} {a : A} (o : Option A) → o ≡ Some a → o ≡ None → P
no_answer {A} {P} {a} o e f = absurd (let no : Some a ≡ None = sym e ∙ f in cc)

same_name : (r q : List ℕ) → is_at (name_cmp r) q ≡ true → r ≡ q
same_name r q t = exact_bytes r q ((Equal-is (name_cmp r q)).0 t)

abbrev pub spot_with : List FieldPlace → ℕ → Spot
spot_with places n = record { places = places; number = n }

module _ (old new : Spots) (r : List ℕ) where
  -- the places of one relation become others
  pub set_keeps : (was is : List Spot) (P : Spot → Type 0) → get name_cmp old r ≡ Some was → tree.Updates name_cmp old new r (Some is)
      → ((s : Spot) → P s → In s was → In s is)
      → (q : List ℕ) (places : List FieldPlace) (n : ℕ) → P (spot_with places n) → IsSpot old q places n → IsSpot new q places n
  set_keeps was is P there u keeps q places n p h = by_test (is_at (name_cmp r) q)
      (λ t.
      let e : r ≡ q = same_name r q t in
      let all : h.0 ≡ was = one_answer (get name_cmp old q) h.1 (ap (get name_cmp old) (sym e) ∙ there) in
      (is, ap (get name_cmp new) (sym e) ∙ u.1, keeps (spot_with places n) p (subst (In (spot_with places n)) all h.2)))
      (λ f. (h.0, u.2 q f ∙ h.1, h.2))

  -- a relation comes
  pub put_keeps : (is : List Spot) → get name_cmp old r ≡ None → tree.Updates name_cmp old new r (Some is) → KeepsSpots old new
  put_keeps is none u q places n h = by_test (is_at (name_cmp r) q)
      (λ t. no_answer (get name_cmp old q) h.1 (ap (get name_cmp old) (sym (same_name r q t)) ∙ none))
      (λ f. (h.0, u.2 q f ∙ h.1, h.2))

  -- a relation without places goes
  pub drop_keeps : ((all : List Spot) → get name_cmp old r ≡ Some all → all ≡ []) → tree.Updates name_cmp old new r None → KeepsSpots old new
  drop_keeps empty u q places n h = by_test (is_at (name_cmp r) q)
      (λ t. absurd (subst (In (spot_with places n)) (empty h.0 (ap (get name_cmp old) (same_name r q t) ∙ h.1)) h.2))
      (λ f. (h.0, u.2 q f ∙ h.1, h.2))

-- the places with another number are still there when those with one number are taken out
pub left_others : (number : ℕ) (was : List Spot) (s : Spot) → s.number ≢ number → In s was → In s (filter (λ (it : Spot). not (nat_eq it.number number)) was)
left_others number was s apart i = filter_in (λ (it : Spot). not (nat_eq it.number number)) s was i
    (ap not (false_from_ne_true (nat_eq s.number number) (λ t. apart ((unsigned_Decides s.number number).0 t))))

-- while places are gone through, one further
pub one_less_ahead : {A : Type 0} (xs : List A) (i : ℕ) (d s : A) → In s (drop i xs) → (s ≡ get_or xs i d) ⊎ In s (drop (suc i) xs)
one_less_ahead [] zero d s h = absurd h
one_less_ahead [] (suc i) d s h = absurd h
one_less_ahead (x ∷ xs) zero d s (inl e) = inl e
one_less_ahead (x ∷ xs) zero d s (inr h) = inr h
one_less_ahead (x ∷ xs) (suc i) d s h = one_less_ahead xs i d s h
