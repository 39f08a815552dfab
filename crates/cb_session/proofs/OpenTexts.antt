-- A text and what stands before its open item.
use Rattle.std.proofs.Common.{◌≡◌, ◌∙◌, ◌<◌, ◌≤◌, ◌&&◌, ◌||◌, ◌++◌, ℕ, Bool, true, false, not, List, [], ◌∷◌, length, nat_lt, refl, sym, ap, subst, arith, rules, append-nil, append_assoc, if◌then◌else◌}
use Rattle.std.proofs.lemmas.List.{append_cancel_right}
use Rattle.std.specs.List.{flat_map, list_any}
use Rattle.cb_forms.specs.Cutting.{AreCut, joined}
use Rattle.cb_forms.specs.Items.{but_last, fitting, fitting_parts, is_gap, is_longer, is_open, items, last_part, over, part_takes, parts, readings_of, rest, whole}
use Rattle.cb_forms.proofs.CuttingLaws.{are_cut-cut, are_cut-front, cut-joined, joined-cut}
use Rattle.cb_forms.proofs.Lasts.{list_any-split}
use Rattle.cb_forms.proofs.OpenPartLaws.{open-no_gap}

-- a text whose last part is an open item: what stands before it, and the parts of that
pub record EndsOpen (p before : List ℕ) : Type 0 where
  pub together : p ≡ before ++ last_part (parts p)
  pub parts_are : parts before ≡ but_last (parts p)
  pub split : parts p ≡ but_last (parts p) ++ last_part (parts p) ∷ []

last_apart : (w : List ℕ) (ws : List (List ℕ)) → w ∷ ws ≡ but_last (w ∷ ws) ++ last_part (w ∷ ws) ∷ []
last_apart w [] = refl
last_apart w (v ∷ ws) = ap (λ us. w ∷ us) (last_apart v ws)

open_apart : (ws : List (List ℕ)) → is_open (last_part ws) ≡ true → ws ≡ but_last ws ++ last_part ws ∷ []
open_apart [] h = absurd (cc)
open_apart (w ∷ ws) h = last_apart w ws

joined_last : (qs : List (List ℕ)) (w : List ℕ) → joined (qs ++ w ∷ []) ≡ joined qs ++ w
joined_last [] w = append-nil w
joined_last (q ∷ qs) w = ap (λ it. q ++ it) (joined_last qs w) ∙ sym (append_assoc q (joined qs) w)

ends_open : (p : List ℕ) → is_open (last_part (parts p)) ≡ true → EndsOpen p (joined (but_last (parts p)))
unfolding parts
ends_open p h =
    let split = open_apart (parts p) h in
    let each : AreCut part_takes (but_last (parts p)) = are_cut-front part_takes (but_last (parts p)) (last_part (parts p) ∷ []) (subst (AreCut part_takes) split (are_cut-cut part_takes p)) in
    record {
      together = sym (joined-cut part_takes p) ∙ ap joined split ∙ joined_last (but_last (parts p)) (last_part (parts p));
      parts_are = cut-joined part_takes (but_last (parts p)) each;
      split = split;
    }

-- what is open is the last part, or nothing
pub rest_open : (p : List ℕ) → is_open (last_part (parts p)) ≡ true → rest p ≡ last_part (parts p)
unfolding rest
rest_open p h = ap (λ t. if t then last_part (parts p) else []) h

pub rest_none : (p : List ℕ) → is_open (last_part (parts p)) ≡ false → rest p ≡ []
unfolding rest
rest_none p h = ap (λ t. if t then last_part (parts p) else []) h

-- what stands before the open item
pub before_open : (p before : List ℕ) → p ≡ before ++ rest p → is_open (last_part (parts p)) ≡ true → EndsOpen p before
before_open p before e h =
    let it = ends_open p h in
    let same : joined (but_last (parts p)) ≡ before =
    append_cancel_right (joined (but_last (parts p))) before (last_part (parts p)) (sym it.together ∙ e ∙ ap (λ w. before ++ w) (rest_open p h)) in
    subst (EndsOpen p) same it

-- items before an open one, and whether one is too long
pub over_before : (limit : ℕ) (p before : List ℕ) → EndsOpen p before → over limit p ≡ (over limit before || is_longer limit (last_part (parts p)))
unfolding over
over_before limit p before it =
    list_any-split (is_longer limit) refl (parts p) ∙ ap (λ ws. list_any (is_longer limit) ws || is_longer limit (last_part (parts p))) (sym it.parts_are)

none_more : (limit : ℕ) (ws : List (List ℕ)) (w : List ℕ) → is_longer limit w ≡ true → list_any (is_longer limit) ws ≡ false → fitting_parts limit (ws ++ w ∷ []) ≡ ws
none_more limit [] w long none = ap (λ t. if t then [] else w ∷ []) long
none_more limit (v ∷ ws) w long none = by (is_longer limit v) none (none_more limit ws w long)
  where
    by : (t : Bool) → (t || list_any (is_longer limit) ws) ≡ false → (list_any (is_longer limit) ws ≡ false → fitting_parts limit (ws ++ w ∷ []) ≡ ws)
        → (if t then [] else v ∷ fitting_parts limit (ws ++ w ∷ [])) ≡ v ∷ ws
    by true is more = absurd (cc)
    by false is more = ap (λ us. v ∷ us) (more is)

pub fitting_before : (limit : ℕ) (p before : List ℕ) → EndsOpen p before → over limit before ≡ false → is_longer limit (last_part (parts p)) ≡ true → fitting limit p ≡ items before
unfolding fitting items over
fitting_before limit p before it none long =
    ap (λ ws. flat_map readings_of (fitting_parts limit ws)) it.split
    ∙ ap (flat_map readings_of) (none_more limit (but_last (parts p)) (last_part (parts p)) long (sym (ap (list_any (is_longer limit)) it.parts_are) ∙ none))
    ∙ ap (flat_map readings_of) (sym it.parts_are)

pub whole_before : (p before : List ℕ) → EndsOpen p before → is_open (last_part (parts p)) ≡ true → whole p ≡ items before
unfolding whole items
whole_before p before it h =
    ap (λ t. flat_map readings_of (but_last (parts p)) ++ (if t then [] else readings_of (last_part (parts p)))) h
    ∙ append-nil (flat_map readings_of (but_last (parts p)))
    ∙ ap (flat_map readings_of) (sym it.parts_are)

-- a text whose last part is no open item says all that it says at its end
flat_last : (ws : List (List ℕ)) → flat_map readings_of (but_last ws) ++ readings_of (last_part ws) ≡ flat_map readings_of ws
flat_last [] = refl
flat_last (w ∷ []) = sym (append-nil (readings_of w))
flat_last (w ∷ v ∷ ws) = append_assoc (readings_of w) (flat_map readings_of (but_last (v ∷ ws))) (readings_of (last_part (v ∷ ws))) ∙ ap (λ rs. readings_of w ++ rs) (flat_last (v ∷ ws))

pub whole_ended : (p : List ℕ) → is_open (last_part (parts p)) ≡ false → whole p ≡ items p
unfolding whole items
whole_ended p h = ap (λ t. flat_map readings_of (but_last (parts p)) ++ (if t then [] else readings_of (last_part (parts p)))) h ∙ flat_last (parts p)

pub not_longer : (limit : ℕ) (w : List ℕ) → length w ≤ limit → is_longer limit w ≡ false
not_longer limit w h = by (is_gap w) (nat_lt limit (length w)) refl
  where
    by : (gap long : Bool) → nat_lt limit (length w) ≡ long → (not gap && long) ≡ false
    by true long e = refl
    by false false e = refl
    by false true e =
        let above : limit < length w = search (rules, e) in
        absurd (omega arith)

pub is_longer_open : (limit : ℕ) (w : List ℕ) → is_open w ≡ true → limit < length w → is_longer limit w ≡ true
is_longer_open limit w opens h =
    let no_gap : is_gap w ≡ false = open-no_gap w opens in
    let long : nat_lt limit (length w) ≡ true = search rules in
    ap (λ t. not t && nat_lt limit (length w)) no_gap ∙ long
