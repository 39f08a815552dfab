-- The items that fit, with the lines on which they begin, as the text goes on.
use Rattle.std.proofs.Common.{◌≡◌, ◌||◌, ◌≤◌, ℕ, Bool, true, false, not, List, [], ◌∷◌, ◌++◌, nat_lt, refl, sym, ap, ◌∙◌, subst, inl, inr, arith, if◌then◌else◌}
use Rattle.std.proofs.lemmas.Bool.{true≢false, false≢true, cases_Bool, or_parts, or_cases, or_right, and_parts, ltb-true}
use Rattle.std.proofs.lemmas.List.{append-nil, append_assoc, append_cancel_left}
use Rattle.std.specs.List.{list_any}
use Rattle.cb_forms.specs.Bytes.{begins_with}
use Rattle.cb_forms.specs.Internal.Cuts.{opened_readings, part_with}
use Rattle.cb_forms.specs.Items.{but_last, fitting_parts, is_gap, is_longer, is_open, items, last_part, over, part_takes, parts, whole}
use Rattle.cb_forms.specs.Lines.{open_line}
use Rattle.cb_forms.specs.Trees.{Reading}
use Rattle.cb_forms.proofs.CuttingLaws.{onto, pushed}
use Rattle.cb_forms.proofs.Lasts.{grown}
use Rattle.cb_forms.proofs.OpenPartLaws.{goes-comment}
use Rattle.cb_forms.proofs.PartLaws.{items-split, longer-push, over-kept, over-push, parts-push, tail, taken-says}
use Rattle.cb_session.proofs.ItemLineLaws.{Starts, comment-grown, line-open, one-more, placed-all, placed-is, starts-then}
use Rattle.cb_session.specs.ItemLines.{all_on, line_past, placed_fitting, placed_parts, placed_whole, too_long_at}

module _ (limit : ℕ) where
  fits-all : (ws : List (List ℕ)) → list_any (is_longer limit) ws ≡ false → fitting_parts limit ws ≡ ws
  fits-all [] h = refl
  fits-all (w ∷ ws) h =
      let both = or_parts (is_longer limit w) (list_any (is_longer limit) ws) h in
      ap (λ t. if t then [] else w ∷ fitting_parts limit ws) both.0 ∙ ap (λ more. w ∷ more) (fits-all ws both.1)

  kept-onto : (w : List ℕ) (b : ℕ) → is_longer limit w ≡ true → fitting_parts limit (onto part_takes w b) ≡ []
  kept-onto w b h = elim (part_takes w b) as (λ t. fitting_parts limit (if t then (w ++ b ∷ []) ∷ [] else w ∷ (b ∷ []) ∷ []) ≡ []) [
    | true ↦ ap (λ t. if t then [] else (w ++ b ∷ []) ∷ []) (longer-push limit w b h)
    | false ↦ ap (λ t. if t then [] else w ∷ fitting_parts limit ((b ∷ []) ∷ [])) h
  ]

  -- after an item that is too long nothing counts
  kept-pushed : (ws : List (List ℕ)) (b : ℕ) → list_any (is_longer limit) ws ≡ true → fitting_parts limit (pushed part_takes ws b) ≡ fitting_parts limit ws
  kept-pushed [] b = λ h. absurd (false≢true h)
  kept-pushed (w ∷ []) b = λ h.
      let long : is_longer limit w ≡ true = elim (or_cases (is_longer limit w) false h) [ inl e ↦ e | inr e ↦ absurd (false≢true e) ] in
      kept-onto w b long ∙ sym (ap (λ t. if t then [] else w ∷ []) long)
  kept-pushed (w ∷ v ∷ ws) b =
      elim (is_longer limit w) as (λ t. (t || list_any (is_longer limit) (v ∷ ws)) ≡ true → (if t then [] else w ∷ fitting_parts limit (pushed part_takes (v ∷ ws) b)) ≡ (if t then [] else w ∷ fitting_parts limit (v ∷ ws))) [
        | true ↦ λ h. refl
        | false ↦ λ h. ap (λ more. w ∷ more) (kept-pushed (v ∷ ws) b h)
      ]

  cut-onto : (w : List ℕ) (b : ℕ) → is_longer limit w ≡ false → is_longer limit (grown part_takes (λ _. refl) w b) ≡ true → fitting_parts limit (onto part_takes w b) ≡ (if part_takes w b then [] else w ∷ [])
  cut-onto w b fits = elim (part_takes w b) as (λ t. is_longer limit (if t then w ++ b ∷ [] else b ∷ []) ≡ true → fitting_parts limit (if t then (w ++ b ∷ []) ∷ [] else w ∷ (b ∷ []) ∷ []) ≡ (if t then [] else w ∷ [])) [
    | true ↦ λ long. ap (λ t. if t then [] else (w ++ b ∷ []) ∷ []) long
    | false ↦ λ long. ap (λ t. if t then [] else w ∷ (if is_longer limit (b ∷ []) then [] else (b ∷ []) ∷ [])) fits ∙ ap (λ t. w ∷ (if t then [] else (b ∷ []) ∷ [])) long
  ]

  cons-if : (w : List ℕ) (t : Bool) (xs ys : List (List ℕ)) → (w ∷ (if t then xs else ys)) ≡ (if t then w ∷ xs else w ∷ ys)
  cons-if w true xs ys = refl
  cons-if w false xs ys = refl

  -- the byte with which an item is too long cuts off the part that it belongs to
  cut-pushed : (ws : List (List ℕ)) (b : ℕ) → list_any (is_longer limit) ws ≡ false → is_longer limit (grown part_takes (λ _. refl) (last_part ws) b) ≡ true → fitting_parts limit (pushed part_takes ws b) ≡ (if part_takes (last_part ws) b then but_last ws else ws)
  cut-pushed [] b fits long = ap (λ t. if t then [] else (b ∷ []) ∷ []) long
  cut-pushed (w ∷ []) b fits long = cut-onto w b (or_parts (is_longer limit w) false fits).0 long
  cut-pushed (w ∷ v ∷ ws) b fits long =
      let each = or_parts (is_longer limit w) (list_any (is_longer limit) (v ∷ ws)) fits in
      ap (λ t. if t then [] else w ∷ fitting_parts limit (pushed part_takes (v ∷ ws) b)) each.0 ∙ (
      ap (λ more. w ∷ more) (cut-pushed (v ∷ ws) b each.1 long) ∙ cons-if w (part_takes (last_part (v ∷ ws)) b) (but_last (v ∷ ws)) (v ∷ ws))

  fits-parts : (p : List ℕ) → over limit p ≡ false → fitting_parts limit (parts p) ≡ parts p
  unfolding over
  fits-parts p h = fits-all (parts p) h

  kept-parts : (p : List ℕ) (b : ℕ) → over limit p ≡ true → fitting_parts limit (parts (p ++ b ∷ [])) ≡ fitting_parts limit (parts p)
  unfolding over
  kept-parts p b h = ap (fitting_parts limit) (parts-push p b) ∙ kept-pushed (parts p) b h

  cut-parts : (p : List ℕ) (b : ℕ) → over limit p ≡ false → over limit (p ++ b ∷ []) ≡ true → fitting_parts limit (parts (p ++ b ∷ [])) ≡ (if part_takes (tail p) b then but_last (parts p) else parts p)
  unfolding over
  cut-parts p b fits long = ap (fitting_parts limit) (parts-push p b) ∙ cut-pushed (parts p) b fits (sym (over-push limit p b fits) ∙ long)

  kept-parts_all : (p r : List ℕ) → over limit p ≡ true → fitting_parts limit (parts (p ++ r)) ≡ fitting_parts limit (parts p)
  kept-parts_all p [] h = ap (λ s. fitting_parts limit (parts s)) (append-nil p)
  kept-parts_all p (b ∷ r) h =
      ap (λ s. fitting_parts limit (parts s)) (sym (append_assoc p (b ∷ []) r)) ∙ (kept-parts_all (p ++ b ∷ []) r (over-kept limit p b h) ∙ kept-parts p b h)

  -- after an item that is too long nothing counts
  pub placed-settled : (p r : List ℕ) → over limit p ≡ true → (placed_fitting limit (p ++ r) ≡ placed_fitting limit p) × (too_long_at limit (p ++ r) ≡ too_long_at limit p)
  unfolding placed_fitting too_long_at
  placed-settled p r h = (ap (placed_parts 0) (kept-parts_all p r h), ap line_past (kept-parts_all p r h))

  fits-placed : (p : List ℕ) → over limit p ≡ false → placed_fitting limit p ≡ placed_parts 0 (parts p)
  unfolding placed_fitting
  fits-placed p h = ap (placed_parts 0) (fits-parts p h)

  -- the items of a text, of which the last may be open
  pub placed-end : (p : List ℕ) (rs : List Reading) → over limit p ≡ false → items p ≡ whole p ++ rs → placed_fitting limit p ≡ placed_whole p ++ all_on (open_line p) rs
  placed-end p rs h is =
      let same : opened_readings (tail p) ≡ rs = append_cancel_left (whole p) (opened_readings (tail p)) rs (sym (items-split p) ∙ is) in
      fits-placed p h ∙ (placed-all p ∙ ap (λ it. placed_whole p ++ all_on (open_line p) it) same)

  cut-placed : (p : List ℕ) (b : ℕ) → over limit p ≡ false → over limit (p ++ b ∷ []) ≡ true
      → (placed_fitting limit (p ++ b ∷ []) ≡ placed_parts 0 (if part_takes (tail p) b then but_last (parts p) else parts p)) × (too_long_at limit (p ++ b ∷ []) ≡ line_past (if part_takes (tail p) b then but_last (parts p) else parts p))
  unfolding placed_fitting too_long_at
  cut-placed p b fits long = (ap (placed_parts 0) (cut-parts p b fits long), ap line_past (cut-parts p b fits long))

  front-placed : (p : List ℕ) (b : ℕ) → part_takes (tail p) b ≡ true → placed_parts 0 (but_last (parts p)) ≡ placed_whole p
  front-placed p b h =
      let front = placed_parts 0 (but_last (parts p)) in
      sym (append-nil front) ∙ (ap (λ rs. front ++ all_on (line_past (but_last (parts p))) rs) (sym (taken-says (tail p) b h)) ∙ sym (placed-is p))

  -- an item that is too long is no comment
  long-open : (w : List ℕ) (b : ℕ) → part_takes w b ≡ true → is_longer limit (w ++ b ∷ []) ≡ true → is_open w ≡ true
  long-open w b takes long = elim (cases_Bool (is_open w)) [
    | inl o ↦ o
    | inr o ↦ absurd (true≢false (sym (gap (w ++ b ∷ []) (comment-grown w b (goes-comment w b takes o))) ∙ not_gap (w ++ b ∷ []) long))
  ]
    where
      gap : (v : List ℕ) → begins_with 59 v ≡ true → is_gap v ≡ true
      gap [] h = refl
      gap (c ∷ cs) h = or_right _ _ h

      not_gap : (v : List ℕ) → is_longer limit v ≡ true → is_gap v ≡ false
      not_gap v h = not_true (is_gap v) (and_parts (not (is_gap v)) _ h).0
        where
          not_true : (t : Bool) → not t ≡ true → t ≡ false
          not_true true h = absurd (false≢true h)
          not_true false h = refl

  -- Where every item may have a byte, an item is too long by a byte of its own: what has ended before it fits, and it begins on the
  -- line of the open item.
  pub placed-cut : (p : List ℕ) (b : ℕ) → 1 ≤ limit → over limit p ≡ false → over limit (p ++ b ∷ []) ≡ true
      → (placed_fitting limit (p ++ b ∷ []) ≡ placed_whole p) × (too_long_at limit (p ++ b ∷ []) ≡ open_line p)
  placed-cut p b some fits long =
      let grown_long : is_longer limit (part_with (tail p) b) ≡ true = sym (over-push limit p b fits) ∙ long in
      let cut = cut-placed p b fits long in
      let taken : part_takes (tail p) b ≡ true = elim (cases_Bool (part_takes (tail p) b)) [
        | inl e ↦ e
        | inr e ↦
            let one = and_parts (not (is_gap (b ∷ []))) (nat_lt limit 1) (sym (ap (λ t. is_longer limit (if t then tail p ++ b ∷ [] else b ∷ [])) e) ∙ grown_long) in
            let lt = ltb-true limit 1 one.1 in absurd (omega arith)
      ] in
      let o = long-open (tail p) b taken (sym (ap (λ t. is_longer limit (if t then tail p ++ b ∷ [] else b ∷ [])) taken) ∙ grown_long) in (
        cut.0 ∙ (ap (λ t. placed_parts 0 (if t then but_last (parts p) else parts p)) taken ∙ front-placed p b taken),
        cut.1 ∙ (ap (λ t. line_past (if t then but_last (parts p) else parts p)) taken ∙ sym (line-open p o)),
      )

  cut-starts : (p : List ℕ) (b : ℕ) → over limit p ≡ false → over limit (p ++ b ∷ []) ≡ true → Starts (placed_whole p) (placed_fitting limit (p ++ b ∷ []))
  cut-starts p b fits long = elim (cases_Bool (part_takes (tail p) b)) [
    | inl e ↦ record {
      more = [];
      is = (cut-placed p b fits long).0 ∙ (ap (λ t. placed_parts 0 (if t then but_last (parts p) else parts p)) e ∙ (front-placed p b e ∙ sym (append-nil (placed_whole p))));
    }
    | inr e ↦ record {
      more = all_on (open_line p) (opened_readings (tail p));
      is = (cut-placed p b fits long).0 ∙ (ap (λ t. placed_parts 0 (if t then but_last (parts p) else parts p)) e ∙ placed-all p);
    }
  ]

  -- what has ended comes first of what fits, however the text goes on
  pub placed-starts : (p r : List ℕ) → over limit p ≡ false → Starts (placed_whole p) (placed_fitting limit (p ++ r))
  placed-starts p [] fits = record { more = all_on (open_line p) (opened_readings (tail p)); is = ap (placed_fitting limit) (append-nil p) ∙ (fits-placed p fits ∙ placed-all p) }
  placed-starts p (b ∷ r) fits =
      let P : List ℕ → Type 0 = λ s. Starts (placed_whole p) (placed_fitting limit s) in
      subst P (append_assoc p (b ∷ []) r) (elim (cases_Bool (over limit (p ++ b ∷ []))) [
        | inl long ↦ let first = cut-starts p b fits long in record { more = first.more; is = (placed-settled (p ++ b ∷ []) r long).0 ∙ first.is }
        | inr fine ↦ starts-then (placed_whole p) (placed_whole (p ++ b ∷ [])) (placed_fitting limit ((p ++ b ∷ []) ++ r)) (one-more p b) (placed-starts (p ++ b ∷ []) r fine)
      ])
