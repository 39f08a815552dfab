-- The facts of an alpha memory that are filed in each of its joins, one after another.
use Rattle.std.proofs.Common.{◌≡◌, ◌≢◌, ◌∙◌, ◌+◌, ◌++◌, ◌<◌, ◌≤◌, ℕ, zero, suc, List, [], ◌∷◌, Option, Some, None, ap, ap₂, arith, drop, get_or, get_or-set_other, get_or-set_same, inl, inr, length, map, set, slice_get, subst, sym, take}
use Rattle.std.proofs.Math.ListN.{length-set}
use Rattle.std.proofs.Math.Seq.{map-set_same, take-append_seam}
use Rattle.std.proofs.lemmas.Option.{get_or_from_slice_get}
use Rattle.std.proofs.lemmas.List.{drop_all, drop_more, get_or-map, length-append, length-map}
use Rattle.std.proofs.lemmas.Bool.{cases_eq}
use Rattle.std.specs.List.{All}
use Rattle.cb_alpha.specs.AlphaMemories.{AlphaMemoryValue, AreSameFields, GainsJoin, values_in}
use Rattle.cb_alpha.specs.Buckets.{AreSameFilings, Refiles, values_at}
use Rattle.cb_alpha.specs.Internal.Joined.{IsFiled, IsFiledBut, JoinIndexValue, fields_of}
use Rattle.cb_alpha.specs.JoinValues.{field_values, with_first}
use Rattle.cb_facts.specs.Facts.{FactValue}
use Rattle.cb_facts.specs.declared.value.Value.{Value}
use Rattle.cb_fit.specs.FieldPlaces.{field_value}
use Rattle.cb_fit.specs.declared.join_fields.JoinField.{JoinField}

-- one of a list anew
module _ {X : Type 0} (xs : List X) (i : ℕ) (x : X) (l : i < length xs) where
  pub done_more : (P : X → Type 0) → ((k : ℕ) (d : X) → k < i → k < length xs → P (get_or xs k d)) → P x
      → (k : ℕ) (d : X) → k < i + 1 → k < length (set xs i x) → P (get_or (set xs i x) k d)
  done_more P done now k d h j = elim (cases_eq k i) as (λ _. P (get_or (set xs i x) k d)) [
    | inl e ↦ subst (λ n. P (get_or (set xs i x) n d)) (sym e) (subst P (sym (get_or-set_same xs i x d l)) now)
    | inr ne ↦ subst P (sym (get_or-set_other xs i k x d ne)) (done k d (omega (arith, h, ne)) (let same : length (set xs i x) ≡ length xs = length-set xs i x in omega (arith, j, same)))
  ]

  pub ahead_more : (ys : List X) → ((k : ℕ) (d : X) → i ≤ k → k < length xs → get_or xs k d ≡ get_or ys k d)
      → (k : ℕ) (d : X) → i + 1 ≤ k → k < length (set xs i x) → get_or (set xs i x) k d ≡ get_or ys k d
  ahead_more ys ahead k d h j =
      let ne : k ≢ i = omega (arith, h) in
      get_or-set_other xs i k x d ne ∙ ahead k d (omega (arith, h)) (let same : length (set xs i x) ≡ length xs = length-set xs i x in omega (arith, j, same))

  pub all_set : (P : X → Type 0) → All P xs → P x → All P (set xs i x)
  all_set P all now k d j = elim (cases_eq k i) as (λ _. P (get_or (set xs i x) k d)) [
    | inl e ↦ subst (λ n. P (get_or (set xs i x) n d)) (sym e) (subst P (sym (get_or-set_same xs i x d l)) now)
    | inr ne ↦ subst P (sym (get_or-set_other xs i k x d ne)) (all k d (let same : length (set xs i x) ≡ length xs = length-set xs i x in omega (arith, j, same)))
  ]

pub fields_set : (xs ys : List JoinIndexValue) (i : ℕ) (old new : JoinIndexValue) → map fields_of xs ≡ map fields_of ys → old ≡ get_or xs i old → new.fields ≡ old.fields
    → map fields_of (set xs i new) ≡ map fields_of ys
fields_set xs ys i old new stay is e = map-set_same fields_of xs i new old (e ∙ ap fields_of is) ∙ stay

module _ (old new : JoinIndexValue) (number : ℕ) (found : ℕ → Option (ℕ × FactValue)) (same : new.fields ≡ old.fields) (was : IsFiledBut number found old) where
  -- what others are filed by stays
  pub but_refiled : (values : Option (List Value)) → Refiles old.facts new.facts number values → IsFiledBut number found new
  but_refiled values r n d = r.others n d ∙ (was n d ∙ ap (λ it. values_in it (found n)) (sym same))

  pub but_same : AreSameFilings old.facts new.facts → IsFiledBut number found new
  but_same r n d = r n ∙ (was n d ∙ ap (λ it. values_in it (found n)) (sym same))

  -- and then all are filed
  pub filed_now : Refiles old.facts new.facts number (values_in old.fields (found number)) → IsFiled found new
  filed_now r n = elim (cases_eq n number) as (λ _. values_at new.facts n ≡ values_in new.fields (found n)) [
    | inl e ↦ ap (values_at new.facts) e ∙ (r.changed ∙ (ap (λ it. values_in it (found number)) (sym same) ∙ ap (λ it. values_in new.fields (found it)) (sym e)))
    | inr d ↦ but_refiled (values_in old.fields (found number)) r n d
  ]

-- a whole vector that was written as a slice
pub written : {X : Type 0} (n : ℕ) (ys xs : List X) → n ≡ length ys → take n (ys ++ drop (length ys) xs) ≡ ys
written n ys xs e = ap (λ it. take it (ys ++ drop (length ys) xs)) e ∙ take-append_seam ys (drop (length ys) xs)

pub as_long : (xs ys : List JoinIndexValue) → map fields_of xs ≡ map fields_of ys → length xs ≡ length ys
as_long xs ys e = sym (length-map xs fields_of) ∙ (ap length e ∙ length-map ys fields_of)

-- fields at the same places, one after another
pub one_place_more : (some others : List JoinField) (i : ℕ) (a b : JoinField) → i < length some → i < length others → a ≡ get_or some i a → b ≡ get_or others i b
    → a.slot ≡ b.slot → a.field ≡ b.field → AreSameFields (drop (i + 1) some) (drop (i + 1) others) → AreSameFields (drop i some) (drop i others)
one_place_more some others i a b l l' is is' slot field rest content =
    ap (λ it. field_values it content) (drop_more some i a l ∙ ap (λ it. it ∷ drop (i + 1) some) (sym is))
    ∙ (ap₂ with_first (ap₂ (λ s f. field_value s f content) slot field) (rest content)
    ∙ sym (ap (λ it. field_values it content) (drop_more others i b l' ∙ ap (λ it. it ∷ drop (i + 1) others) (sym is'))))

pub none_left : (some others : List JoinField) (i : ℕ) → length some ≤ i → length some ≡ length others → AreSameFields (drop i some) (drop i others)
none_left some others i l long content =
    ap (λ it. field_values it content) (drop_all i some l) ∙ sym (ap (λ it. field_values it content) (drop_all i others (omega (arith, l, long))))

-- one of what is mapped
pub mapped_at : {X Y : Type 0} (f : X → Y) (xs : List X) (k : ℕ) (d : X) (y : Y) → slice_get (map f xs) k ≡ Some y → k < length xs → f (get_or xs k d) ≡ y
mapped_at f xs k d y got l = sym (get_or-map f xs k d (f d) l) ∙ get_or_from_slice_get (map f xs) k y (f d) got

-- a join more
at_last : (xs : List JoinIndexValue) (j : JoinIndexValue) (fs : List JoinField) → slice_get (map fields_of (xs ++ j ∷ [])) (length xs) ≡ Some fs → j.fields ≡ fs
at_last [] j fs e = cc
at_last (x ∷ xs) j fs e = at_last xs j fs e

still_at : (xs : List JoinIndexValue) (j : JoinIndexValue) (k : ℕ) (fs : List JoinField) → slice_get (map fields_of xs) k ≡ Some fs → slice_get (map fields_of (xs ++ j ∷ [])) k ≡ Some fs
still_at [] j k fs e = absurd (let no : None ≡ Some fs = e in cc)
still_at (x ∷ xs) j zero fs e = e
still_at (x ∷ xs) j (suc k) fs e = still_at xs j k fs e

pub join_more : (old new : AlphaMemoryValue) (xs : List JoinIndexValue) (j : JoinIndexValue) → old.joins ≡ map fields_of xs → new.joins ≡ map fields_of (xs ++ j ∷ []) → new.candidates ≡ old.candidates → new.gone ≡ old.gone → new.come ≡ old.come
    → GainsJoin old new (length xs) j.fields
join_more old new xs j was is candidates gone come = record {
  within = let long : length new.joins ≡ length xs + 1 = ap length is ∙ (length-map (xs ++ j ∷ []) fields_of ∙ length-append xs (j ∷ [])) in omega (arith, long);
  same = λ fs got content. ap (λ it. field_values it content) (sym (at_last xs j fs (ap (λ it. slice_get it (length xs)) (sym is) ∙ got)));
  others = λ k fs got. ap (λ it. slice_get it k) is ∙ still_at xs j k fs (ap (λ it. slice_get it k) (sym was) ∙ got);
  candidates = candidates;
  gone = gone;
  come = come;
}
