-- What a cutter keeps, step by step.
use Rattle.std.proofs.Common.{◌≡◌, ◌&&◌, ◌≤◌, ℕ, ◌+◌, ◌-◌, Bool, true, false, not, List, [], ◌∷◌, ◌++◌, length, nat_lt, refl, sym, ap, ◌∙◌, inl, inr, arith, if◌then◌else◌}
use Rattle.std.proofs.lemmas.Bool.{true≢false, false≢true, cases_Bool, ltb-false, or_parts}
use Rattle.std.specs.List.{list_any}
use Rattle.cb_forms.specs.Cuts.{is_too_long}
use Rattle.cb_forms.specs.Internal.Cuts.{cut_readings, opened_readings, open_bytes, part_with, readings_before}
use Rattle.cb_forms.specs.Internal.{IsInStep, line_with}
use Rattle.cb_forms.specs.Items.{part_takes, parts, items, but_last, is_open, ended_readings, whole, rest, is_longer, over}
use Rattle.cb_forms.specs.Internal.OpenParts.{IsKept, Reaches}
use Rattle.cb_forms.specs.Lines.{line_feeds, before_open, open_line}
use Rattle.cb_forms.specs.Trees.{Reading}
use Rattle.cb_forms.specs.declared.cut.Cut.{Cut}
use Rattle.cb_forms.specs.declared.open_part.OpenPart.{OpenPart}
use Rattle.cb_forms.proofs.LineLaws.{line-kept}
use Rattle.cb_forms.proofs.OpenPartLaws.{open-no_gap}
use Rattle.cb_forms.proofs.PartLaws.{tail, tail-push, items-split, whole-taken, whole-fresh, over-split, over-push, over-kept}

-- what has ended with one more byte
pub whole-push : (p : List ℕ) (b : ℕ) → whole (p ++ b ∷ []) ≡ whole p ++ (readings_before (tail p) b ++ ended_readings (part_with (tail p) b))
whole-push p b =
    let P : Bool → Type 0 = λ t. part_takes (tail p) b ≡ t → whole (p ++ b ∷ []) ≡ whole p ++ ((if t then [] else opened_readings (tail p)) ++ ended_readings (if t then tail p ++ b ∷ [] else b ∷ [])) in
    let cases : (t : Bool) → P t = λ t. elim t as P [
      | true ↦ λ e. whole-taken p b e
      | false ↦ λ e. whole-fresh p b e
    ] in cases (part_takes (tail p) b) refl

in_step-start : (limit : ℕ) (part : OpenPart) → part.spelled.items ≡ [] → IsKept part → IsInStep limit [] [] part false 1
unfolding over whole parts rest before_open
in_step-start limit part spelled kept = record {
  over_is = refl;
  cleared = λ h. absurd (false≢true h);
  given_is = λ _. refl;
  spelled = λ _. spelled;
  kept = λ _. kept;
  line_is = λ _. refl;
}

-- nothing stepped, nothing given
pub in_step-new : (limit : ℕ) (stepped : List ℕ) (given : List Reading) (part : OpenPart) (is_over : Bool) → stepped ≡ [] → given ≡ [] → is_over ≡ false → part.spelled.items ≡ [] → IsKept part → IsInStep limit stepped given part is_over 1
in_step-new limit stepped given part is_over none nothing fits spelled kept = rw (none, nothing, fits) (in_step-start limit part spelled kept)

-- one more byte
pub in_step-push : (limit : ℕ) (p p' : List ℕ) (b : ℕ) (given given' : List Reading) (cut : Cut) (part part' : OpenPart) (is_over is_over' : Bool) (line line' : ℕ) → is_over ≡ false → IsInStep limit p given part is_over line
    → Reaches limit (part_with part.spelled.items b) (readings_before part.spelled.items b) cut part' → p' ≡ p ++ b ∷ [] → given' ≡ given ++ cut_readings cut → is_over' ≡ is_too_long cut
    → line' ≡ line_with line (line_feeds part.bytes + line_feeds (b ∷ []) - line_feeds part'.bytes) → IsInStep limit p' given' part' is_over' line'
in_step-push limit p p' b given given' cut part part' is_over is_over' line line' fits was goes next more is further =
    let same = was.spelled fits in
    let longer : is_longer limit (part_with part.spelled.items b) ≡ over limit (p ++ b ∷ []) = ap (λ w. is_longer limit (part_with w b)) same ∙ sym (over-push limit p b (sym was.over_is ∙ fits)) in
    let gives : is_too_long cut ≡ false → given' ≡ whole (p ++ b ∷ []) = λ short. more ∙ (ap (λ it. it ++ cut_readings cut) (was.given_is fits) ∙ (ap (λ it. whole p ++ it) (goes.items short ∙ ap (λ w. readings_before w b ++ ended_readings (part_with w b)) same) ∙ sym (whole-push p b))) in
    let spells : is_too_long cut ≡ false → part'.spelled.items ≡ tail (p ++ b ∷ []) = λ short. goes.spelled short ∙ (ap (λ w. part_with w b) same ∙ sym (tail-push p b)) in
    rw (next, is) (record {
      over_is = goes.too_long ∙ longer;
      cleared = goes.cleared;
      given_is = gives;
      spelled = spells;
      kept = goes.kept;
      line_is = λ short. further ∙ line-kept p (b ∷ []) line part part' (was.line_is fits) (was.kept fits) same (goes.kept short) (spells short);
    })

-- one more byte after an item that is too long
pub in_step-over : (limit : ℕ) (p p' : List ℕ) (b : ℕ) (given : List Reading) (part : OpenPart) (is_over : Bool) (line : ℕ) → is_over ≡ true → IsInStep limit p given part is_over line → p' ≡ p ++ b ∷ [] → IsInStep limit p' given part is_over line
in_step-over limit p p' b given part is_over line e was next = rw next (record {
  over_is = e ∙ sym (over-kept limit p b (sym was.over_is ∙ e));
  cleared = was.cleared;
  given_is = λ h. absurd (true≢false (sym e ∙ h));
  spelled = λ h. absurd (true≢false (sym e ∙ h));
  kept = λ h. absurd (true≢false (sym e ∙ h));
  line_is = λ h. absurd (true≢false (sym e ∙ h));
})

-- what is kept is what is open
pub held-rest : (limit : ℕ) (p : List ℕ) (given : List Reading) (part : OpenPart) (is_over : Bool) (line : ℕ) → IsInStep limit p given part is_over line → over limit p ≡ false → part.bytes ≡ rest p
unfolding rest
held-rest limit p given part is_over line was fits =
    let none = was.over_is ∙ fits in (was.kept none).bytes_are ∙ ap open_bytes (was.spelled none)

pub rest-fits : (limit : ℕ) (p : List ℕ) → over limit p ≡ false → length (rest p) ≤ limit
unfolding rest
rest-fits limit p fits =
    let short = (or_parts (list_any (is_longer limit) (but_last (parts p))) (is_longer limit (tail p)) (sym (over-split limit p) ∙ fits)).1 in
    elim (cases_Bool (is_open (tail p))) as (λ _. length (open_bytes (tail p)) ≤ limit) [
      | inl e ↦ let le = ltb-false limit (length (tail p)) (sym (ap (λ t. not t && nat_lt limit (length (tail p))) (open-no_gap (tail p) e)) ∙ short) in rw e le
      | inr e ↦ rw e (omega arith)
    ]

pub held-within : (limit : ℕ) (p : List ℕ) (given : List Reading) (part : OpenPart) (is_over : Bool) (line : ℕ) → IsInStep limit p given part is_over line → length part.bytes ≤ limit
held-within limit p given part is_over line was = elim (cases_Bool (over limit p)) [
  | inl e ↦ let none = ap length (was.cleared (was.over_is ∙ e)) in omega arith
  | inr e ↦ let same = ap length (held-rest limit p given part is_over line was e) in let fits = rest-fits limit p e in omega arith
]

-- the items of the text, by those given and the open one
pub items-end : (limit : ℕ) (p : List ℕ) (given says : List Reading) (part : OpenPart) (is_over : Bool) (line : ℕ) → IsInStep limit p given part is_over line → over limit p ≡ false → says ≡ opened_readings part.spelled.items → given ++ says ≡ items p
items-end limit p given says part is_over line was fits is =
    let none = was.over_is ∙ fits in
    ap (λ it. it ++ says) (was.given_is none) ∙ (ap (λ it. whole p ++ it) (is ∙ ap opened_readings (was.spelled none)) ∙ sym (items-split p))

-- the line is that of the open item
pub line-open : (limit : ℕ) (p : List ℕ) (given : List Reading) (part : OpenPart) (is_over : Bool) (line : ℕ) → IsInStep limit p given part is_over line → over limit p ≡ false → line ≡ open_line p
line-open limit p given part is_over line was fits = was.line_is (was.over_is ∙ fits)
