-- The items before the first that is too long, as the text grows.
use Rattle.std.proofs.Common.{◌≡◌, ◌||◌, ◌≤◌, ℕ, Bool, true, false, not, List, [], ◌∷◌, ◌++◌, nat_lt, refl, sym, ap, ◌∙◌, subst, inl, inr, arith, if◌then◌else◌}
use Rattle.std.proofs.lemmas.Bool.{false≢true, cases_Bool, or_parts, or_cases, and_parts, ltb-true}
use Rattle.std.proofs.lemmas.List.{append-nil, append_assoc}
use Rattle.std.specs.List.{flat_map, list_any}
use Rattle.cb_forms.specs.Internal.Cuts.{opened_readings}
use Rattle.cb_forms.specs.Items.{part_takes, parts, readings_of, items, but_last, last_part, ended_readings, whole, is_gap, is_longer, over, fitting_parts, fitting}
use Rattle.cb_forms.specs.Trees.{Reading}
use Rattle.cb_forms.proofs.CuttingLaws.{onto, pushed}
use Rattle.cb_forms.proofs.Lasts.{grown}
use Rattle.cb_forms.proofs.PartLaws.{tail, parts-push, items-split, taken-says, whole-taken, whole-fresh, over-push, longer-push, over-kept}

module _ (limit : ℕ) where
  fits-all : (ws : List (List ℕ)) → list_any (is_longer limit) ws ≡ false → fitting_parts limit ws ≡ ws
  fits-all [] h = refl
  fits-all (w ∷ ws) h =
      let parts_of = or_parts (is_longer limit w) (list_any (is_longer limit) ws) h in
      ap (λ t. if t then [] else w ∷ fitting_parts limit ws) parts_of.0 ∙ ap (λ more. w ∷ more) (fits-all ws parts_of.1)

  kept-onto : (w : List ℕ) (b : ℕ) → is_longer limit w ≡ true → fitting_parts limit (onto part_takes w b) ≡ []
  kept-onto w b h = elim (part_takes w b) as (λ t. fitting_parts limit (if t then (w ++ b ∷ []) ∷ [] else w ∷ (b ∷ []) ∷ []) ≡ []) [
    | true ↦ ap (λ t. if t then [] else (w ++ b ∷ []) ∷ []) (longer-push limit w b h)
    | false ↦ ap (λ t. if t then [] else w ∷ fitting_parts limit ((b ∷ []) ∷ [])) h
  ]

  -- after an item that is too long nothing counts
  kept-pushed : (ws : List (List ℕ)) (b : ℕ) → list_any (is_longer limit) ws ≡ true → fitting_parts limit (pushed part_takes ws b) ≡ fitting_parts limit ws
  kept-pushed [] b = λ h. absurd (false≢true h)
  kept-pushed (w ∷ []) b = λ h.
      let long : is_longer limit w ≡ true = elim (or_cases (is_longer limit w) false h) [ inl e ↦ e | inr e ↦ absurd (false≢true e) ] in
      kept-onto w b long ∙ sym (ap (λ t. if t then [] else w ∷ []) long)
  kept-pushed (w ∷ v ∷ ws) b =
      elim (is_longer limit w) as (λ t. (t || list_any (is_longer limit) (v ∷ ws)) ≡ true → (if t then [] else w ∷ fitting_parts limit (pushed part_takes (v ∷ ws) b)) ≡ (if t then [] else w ∷ fitting_parts limit (v ∷ ws))) [
        | true ↦ λ h. refl
        | false ↦ λ h. ap (λ more. w ∷ more) (kept-pushed (v ∷ ws) b h)
      ]

  cut-onto : (w : List ℕ) (b : ℕ) → is_longer limit w ≡ false → is_longer limit (grown part_takes (λ _. refl) w b) ≡ true → fitting_parts limit (onto part_takes w b) ≡ (if part_takes w b then [] else w ∷ [])
  cut-onto w b fits = elim (part_takes w b) as (λ t. is_longer limit (if t then w ++ b ∷ [] else b ∷ []) ≡ true → fitting_parts limit (if t then (w ++ b ∷ []) ∷ [] else w ∷ (b ∷ []) ∷ []) ≡ (if t then [] else w ∷ [])) [
    | true ↦ λ long. ap (λ t. if t then [] else (w ++ b ∷ []) ∷ []) long
    | false ↦ λ long. ap (λ t. if t then [] else w ∷ (if is_longer limit (b ∷ []) then [] else (b ∷ []) ∷ [])) fits ∙ ap (λ t. w ∷ (if t then [] else (b ∷ []) ∷ [])) long
  ]

  cons-if : (w : List ℕ) (t : Bool) (xs ys : List (List ℕ)) → (w ∷ (if t then xs else ys)) ≡ (if t then w ∷ xs else w ∷ ys)
  cons-if w true xs ys = refl
  cons-if w false xs ys = refl

  -- the byte with which an item is too long cuts off the part that it belongs to
  cut-pushed : (ws : List (List ℕ)) (b : ℕ) → list_any (is_longer limit) ws ≡ false → is_longer limit (grown part_takes (λ _. refl) (last_part ws) b) ≡ true → fitting_parts limit (pushed part_takes ws b) ≡ (if part_takes (last_part ws) b then but_last ws else ws)
  cut-pushed [] b fits long = ap (λ t. if t then [] else (b ∷ []) ∷ []) long
  cut-pushed (w ∷ []) b fits long = cut-onto w b (or_parts (is_longer limit w) false fits).0 long
  cut-pushed (w ∷ v ∷ ws) b fits long =
      let each = or_parts (is_longer limit w) (list_any (is_longer limit) (v ∷ ws)) fits in
      ap (λ t. if t then [] else w ∷ fitting_parts limit (pushed part_takes (v ∷ ws) b)) each.0 ∙ (
      ap (λ more. w ∷ more) (cut-pushed (v ∷ ws) b each.1 long) ∙ cons-if w (part_takes (last_part (v ∷ ws)) b) (but_last (v ∷ ws)) (v ∷ ws))

-- where no item is too long, all fit
pub fitting-items : (limit : ℕ) (s : List ℕ) → over limit s ≡ false → fitting limit s ≡ items s
unfolding fitting items over
fitting-items limit s fits = ap (flat_map readings_of) (fits-all limit (parts s) fits)

fitting-kept_push : (limit : ℕ) (p : List ℕ) (b : ℕ) → over limit p ≡ true → fitting limit (p ++ b ∷ []) ≡ fitting limit p
unfolding fitting over
fitting-kept_push limit p b long = ap (flat_map readings_of) (ap (fitting_parts limit) (parts-push p b) ∙ kept-pushed limit (parts p) b long)

-- after an item that is too long nothing counts
pub fitting-kept : (limit : ℕ) (p r : List ℕ) → over limit p ≡ true → fitting limit (p ++ r) ≡ fitting limit p
fitting-kept limit p [] long = ap (fitting limit) (append-nil p)
fitting-kept limit p (b ∷ r) long =
    ap (fitting limit) (sym (append_assoc p (b ∷ []) r)) ∙ (fitting-kept limit (p ++ b ∷ []) r (over-kept limit p b long) ∙ fitting-kept_push limit p b long)

pick : (t : Bool) (ws vs : List (List ℕ)) → flat_map readings_of (if t then ws else vs) ≡ (if t then flat_map readings_of ws else flat_map readings_of vs)
pick true ws vs = refl
pick false ws vs = refl

front_says : (p : List ℕ) (b : ℕ) → part_takes (tail p) b ≡ true → flat_map readings_of (but_last (parts p)) ≡ whole p
unfolding whole
front_says p b h = sym (append-nil (flat_map readings_of (but_last (parts p)))) ∙ ap (λ more. flat_map readings_of (but_last (parts p)) ++ more) (sym (taken-says (tail p) b h))

-- what fits before the byte with which an item is too long
fitting-cut : (limit : ℕ) (p : List ℕ) (b : ℕ) → over limit p ≡ false → over limit (p ++ b ∷ []) ≡ true → fitting limit (p ++ b ∷ []) ≡ (if part_takes (tail p) b then whole p else items p)
unfolding fitting over items
fitting-cut limit p b fits long =
    let grown_long = sym (over-push limit p b fits) ∙ long in
    let P : Bool → Type 0 = λ t. part_takes (tail p) b ≡ t → (if t then flat_map readings_of (but_last (parts p)) else flat_map readings_of (parts p)) ≡ (if t then whole p else flat_map readings_of (parts p)) in
    let cases : (t : Bool) → P t = λ t. elim t as P [ true ↦ λ e. front_says p b e | false ↦ λ e. refl ] in
    ap (λ ws. flat_map readings_of (fitting_parts limit ws)) (parts-push p b) ∙ (ap (flat_map readings_of) (cut-pushed limit (parts p) b fits grown_long) ∙ (pick (part_takes (tail p) b) (but_last (parts p)) (parts p) ∙ cases (part_takes (tail p) b) refl))

-- Where every item may have a byte, what fits before the byte with which one is too long is what has ended before it.
pub fitting-whole : (limit : ℕ) (p : List ℕ) (b : ℕ) → 1 ≤ limit → over limit p ≡ false → over limit (p ++ b ∷ []) ≡ true → fitting limit (p ++ b ∷ []) ≡ whole p
fitting-whole limit p b some fits long =
    let grown_long = sym (over-push limit p b fits) ∙ long in
    let taken : part_takes (tail p) b ≡ true = elim (cases_Bool (part_takes (tail p) b)) [
      | inl e ↦ e
      | inr e ↦
          let one = and_parts (not (is_gap (b ∷ []))) (nat_lt limit 1) (sym (ap (λ t. is_longer limit (if t then tail p ++ b ∷ [] else b ∷ [])) e) ∙ grown_long) in
          let lt = ltb-true limit 1 one.1 in absurd (omega arith)
    ] in fitting-cut limit p b fits long ∙ ap (λ t. if t then whole p else items p) taken

-- whatever follows, what has ended is a beginning of what fits
pub record Begins (some all : List Reading) : Type 0 where
  pub more : List Reading
  pub is : all ≡ some ++ more

pub begins_with_more : (a b c : List Reading) → b ≡ a ++ c → (all : List Reading) → Begins b all → Begins a all
begins_with_more a b c e all h = record {
  more = c ++ h.more;
  is = h.is ∙ (ap (λ it. it ++ h.more) e ∙ append_assoc a c h.more);
}

whole-push : (p : List ℕ) (b : ℕ) → Begins (whole p) (whole (p ++ b ∷ []))
whole-push p b = elim (cases_Bool (part_takes (tail p) b)) [
  | inl e ↦ record { more = ended_readings (tail p ++ b ∷ []); is = whole-taken p b e }
  | inr e ↦ record { more = opened_readings (tail p) ++ ended_readings (b ∷ []); is = whole-fresh p b e }
]

cut-begins : (limit : ℕ) (p : List ℕ) (b : ℕ) → over limit p ≡ false → over limit (p ++ b ∷ []) ≡ true → Begins (whole p) (fitting limit (p ++ b ∷ []))
cut-begins limit p b fits long = elim (cases_Bool (part_takes (tail p) b)) [
  | inl e ↦ record { more = []; is = fitting-cut limit p b fits long ∙ (ap (λ t. if t then whole p else items p) e ∙ sym (append-nil (whole p))) }
  | inr e ↦ record { more = opened_readings (tail p); is = fitting-cut limit p b fits long ∙ (ap (λ t. if t then whole p else items p) e ∙ items-split p) }
]

-- what has ended is a beginning of what fits, however the text goes on
pub whole-fitting : (limit : ℕ) (p r : List ℕ) → over limit p ≡ false → Begins (whole p) (fitting limit (p ++ r))
whole-fitting limit p [] fits = record { more = opened_readings (tail p); is = ap (fitting limit) (append-nil p) ∙ (fitting-items limit p fits ∙ items-split p) }
whole-fitting limit p (b ∷ r) fits =
    let P : List ℕ → Type 0 = λ s. Begins (whole p) (fitting limit s) in
    subst P (append_assoc p (b ∷ []) r) (elim (cases_Bool (over limit (p ++ b ∷ []))) [
      | inl long ↦ let cut = cut-begins limit p b fits long in record { more = cut.more; is = fitting-kept limit (p ++ b ∷ []) r long ∙ cut.is }
      | inr fine ↦ let next = whole-push p b in begins_with_more (whole p) (whole (p ++ b ∷ [])) next.more next.is (fitting limit ((p ++ b ∷ []) ++ r)) (whole-fitting limit (p ++ b ∷ []) r fine)
    ])

-- an item that is too long stays so
pub over-kept_all : (limit : ℕ) (p r : List ℕ) → over limit p ≡ true → over limit (p ++ r) ≡ true
over-kept_all limit p [] long = ap (over limit) (append-nil p) ∙ long
over-kept_all limit p (b ∷ r) long = ap (over limit) (sym (append_assoc p (b ∷ []) r)) ∙ over-kept_all limit (p ++ b ∷ []) r (over-kept limit p b long)

-- what has ended stays, and more may come
pub whole-more : (p r : List ℕ) → Begins (whole p) (whole (p ++ r))
whole-more p [] = record { more = []; is = ap whole (append-nil p) ∙ sym (append-nil (whole p)) }
whole-more p (b ∷ r) =
    let P : List ℕ → Type 0 = λ s. Begins (whole p) (whole s) in
    let next = whole-push p b in
    subst P (append_assoc p (b ∷ []) r) (begins_with_more (whole p) (whole (p ++ b ∷ [])) next.more next.is (whole ((p ++ b ∷ []) ++ r)) (whole-more (p ++ b ∷ []) r))
