-- The last part of a cut, and those before it, with one more byte.
use Rattle.std.proofs.Common.{◌≡◌, ◌||◌, ℕ, ◌+◌, Bool, true, false, cond, List, [], ◌∷◌, ◌++◌, refl, sym, ap, ◌∙◌, append_assoc, arith, if◌then◌else◌}
use Rattle.std.proofs.lemmas.Bool.{false≢true}
use Rattle.std.proofs.lemmas.List.{append-nil}
use Rattle.std.proofs.lemmas.List.Sums.{sum_by-cons}
use Rattle.std.specs.List.{count_by, flat_map, list_any}
use Rattle.cb_forms.specs.Bytes.{begins_with}
use Rattle.cb_forms.specs.Items.{but_last, last_part}
use Rattle.cb_forms.proofs.CuttingLaws.{onto, pushed}

module _ (takes : List ℕ → ℕ → Bool) (none : (b : ℕ) → takes [] b ≡ false) where
  -- a part with one more byte, or the byte as a part of its own
  abbrev pub grown : List ℕ → ℕ → List ℕ
  grown w b = if takes w b then w ++ b ∷ [] else b ∷ []

  last_part-onto : (w : List ℕ) (b : ℕ) → last_part (onto takes w b) ≡ grown w b
  last_part-onto w b = elim (takes w b) as (λ t. last_part (if t then (w ++ b ∷ []) ∷ [] else w ∷ (b ∷ []) ∷ []) ≡ (if t then w ++ b ∷ [] else b ∷ [])) [
    | true ↦ refl
    | false ↦ refl
  ]

  last_part-after : (w v : List ℕ) (ws : List (List ℕ)) (b : ℕ) → last_part (w ∷ pushed takes (v ∷ ws) b) ≡ last_part (pushed takes (v ∷ ws) b)
  last_part-after w v [] b = elim (takes v b) as (λ t. last_part (w ∷ (if t then (v ++ b ∷ []) ∷ [] else v ∷ (b ∷ []) ∷ [])) ≡ last_part (if t then (v ++ b ∷ []) ∷ [] else v ∷ (b ∷ []) ∷ [])) [
    | true ↦ refl
    | false ↦ refl
  ]
  last_part-after w v (u ∷ us) b = refl

  pub last_part-pushed : (ws : List (List ℕ)) (b : ℕ) → last_part (pushed takes ws b) ≡ grown (last_part ws) b
  last_part-pushed [] b = rw (none b) refl
  last_part-pushed (w ∷ []) b = last_part-onto w b
  last_part-pushed (w ∷ v ∷ ws) b = last_part-after w v ws b ∙ last_part-pushed (v ∷ ws) b

  but_last-after : (w v : List ℕ) (ws : List (List ℕ)) (b : ℕ) → but_last (w ∷ pushed takes (v ∷ ws) b) ≡ w ∷ but_last (pushed takes (v ∷ ws) b)
  but_last-after w v [] b = elim (takes v b) as (λ t. but_last (w ∷ (if t then (v ++ b ∷ []) ∷ [] else v ∷ (b ∷ []) ∷ [])) ≡ w ∷ but_last (if t then (v ++ b ∷ []) ∷ [] else v ∷ (b ∷ []) ∷ [])) [
    | true ↦ refl
    | false ↦ refl
  ]
  but_last-after w v (u ∷ us) b = refl

  but_last-if : (w : List ℕ) (ws vs : List (List ℕ)) (t : Bool) → (w ∷ (if t then ws else vs)) ≡ (if t then w ∷ ws else w ∷ vs)
  but_last-if w ws vs true = refl
  but_last-if w ws vs false = refl

  pub but_last-pushed : (ws : List (List ℕ)) (b : ℕ) → but_last (pushed takes ws b) ≡ (if takes (last_part ws) b then but_last ws else ws)
  but_last-pushed [] b = rw (none b) refl
  but_last-pushed (w ∷ []) b = elim (takes w b) as (λ t. but_last (if t then (w ++ b ∷ []) ∷ [] else w ∷ (b ∷ []) ∷ []) ≡ (if t then [] else w ∷ [])) [
    | true ↦ refl
    | false ↦ refl
  ]
  but_last-pushed (w ∷ v ∷ ws) b =
      but_last-after w v ws b ∙ (ap (λ more. w ∷ more) (but_last-pushed (v ∷ ws) b) ∙ but_last-if w (but_last (v ∷ ws)) (v ∷ ws) (takes (last_part (v ∷ ws)) b))

  begins_with-push : (c : ℕ) (w : List ℕ) (b : ℕ) → takes w b ≡ true → begins_with c (w ++ b ∷ []) ≡ begins_with c w
  begins_with-push c [] b h = absurd (false≢true (sym (none b) ∙ h))
  begins_with-push c (x ∷ xs) b h = refl

  abbrev tally : ℕ → List ℕ → ℕ
  tally c w = cond (begins_with c w) 1 0

  count-onto : (c : ℕ) (w : List ℕ) (b : ℕ) → count_by (begins_with c) (onto takes w b) ≡ tally c w + (if takes w b then 0 else tally c (b ∷ []))
  count-onto c w b =
      let P : Bool → Type 0 = λ t. takes w b ≡ t → count_by (begins_with c) (if t then (w ++ b ∷ []) ∷ [] else w ∷ (b ∷ []) ∷ []) ≡ tally c w + (if t then 0 else tally c (b ∷ [])) in
      let cases : (t : Bool) → P t = λ t. elim t as P [
        | true ↦ λ e. rw (begins_with-push c w b e) (omega arith)
        | false ↦ λ e. omega arith
      ] in cases (takes w b) refl

  -- how many parts begin with c, with one more byte
  pub count-pushed : (c : ℕ) (ws : List (List ℕ)) (b : ℕ) → count_by (begins_with c) (pushed takes ws b) ≡ count_by (begins_with c) ws + (if takes (last_part ws) b then 0 else tally c (b ∷ []))
  count-pushed c [] b = rw (none b) (omega arith)
  count-pushed c (w ∷ []) b = count-onto c w b ∙ omega arith
  count-pushed c (w ∷ v ∷ ws) b =
      let more = if takes (last_part (v ∷ ws)) b then 0 else tally c (b ∷ []) in
      let one = sum_by-cons (tally c) w (pushed takes (v ∷ ws) b) in
      let two = sum_by-cons (tally c) w (v ∷ ws) in
      let three = count-pushed c (v ∷ ws) b in omega (arith, one, two, three)

module _ {A : Type 0} (f : List ℕ → List A) (none : f [] ≡ []) where
  -- what the parts say: those before the last, and the last
  pub flat_map-split : (ws : List (List ℕ)) → flat_map f ws ≡ flat_map f (but_last ws) ++ f (last_part ws)
  flat_map-split [] = sym none
  flat_map-split (w ∷ []) = append-nil (f w)
  flat_map-split (w ∷ v ∷ ws) = ap (λ more. f w ++ more) (flat_map-split (v ∷ ws)) ∙ sym (append_assoc (f w) (flat_map f (but_last (v ∷ ws))) (f (last_part (v ∷ ws))))

or-false : (t : Bool) → (t || false) ≡ t
or-false true = refl
or-false false = refl

or_assoc : (s t u : Bool) → (s || (t || u)) ≡ ((s || t) || u)
or_assoc true t u = refl
or_assoc false t u = refl

module _ (q : List ℕ → Bool) (none : q [] ≡ false) where
  -- some part passes: one before the last, or the last
  pub list_any-split : (ws : List (List ℕ)) → list_any q ws ≡ (list_any q (but_last ws) || q (last_part ws))
  list_any-split [] = sym none
  list_any-split (w ∷ []) = or-false (q w)
  list_any-split (w ∷ v ∷ ws) = ap (λ t. q w || t) (list_any-split (v ∷ ws)) ∙ or_assoc (q w) (list_any q (but_last (v ∷ ws))) (q (last_part (v ∷ ws)))
