-- What one more byte does to the items of a text: those that have ended, the open one and the longest.
use Rattle.std.proofs.Common.{◌≡◌, ◌==◌, ◌||◌, ℕ, Bool, true, false, not, List, [], ◌∷◌, ◌++◌, length, nat_lt, refl, sym, ap, ◌∙◌, append_assoc, inl, inr, arith, if◌then◌else◌}
use Rattle.std.proofs.lemmas.Bool.{false≢true, ltb-true, lt-ltb, cases_eq, ne_eqb, and_parts, and_from, or_parts, or_cases, or_left, or_right}
use Rattle.std.proofs.lemmas.List.{append-nil, length_push}
use Rattle.std.specs.List.{flat_map, list_any}
use Rattle.cb_forms.specs.Bytes.{is_single, is_delimiter}
use Rattle.cb_forms.specs.Internal.Cuts.{opened_readings, part_with}
use Rattle.cb_forms.specs.Items.{is_open_list, part_takes, parts, is_gap, readings_of, items, but_last, last_part, is_open, ended_readings, whole, is_longer, over}
use Rattle.cb_forms.specs.Pieces.{piece_takes}
use Rattle.cb_forms.specs.Strings.{is_unclosed}
use Rattle.cb_forms.proofs.CuttingLaws.{cut-push, pushed}
use Rattle.cb_forms.proofs.Lasts.{last_part-pushed, but_last-pushed, flat_map-split, list_any-split}

-- the part that a text ends with
abbrev pub tail : List ℕ → List ℕ
tail p = last_part (parts p)

pub parts-push : (p : List ℕ) (b : ℕ) → parts (p ++ b ∷ []) ≡ pushed part_takes (parts p) b
unfolding parts
parts-push p b = cut-push part_takes p b

pub tail-push : (p : List ℕ) (b : ℕ) → tail (p ++ b ∷ []) ≡ part_with (tail p) b
tail-push p b = ap last_part (parts-push p b) ∙ last_part-pushed part_takes (λ _. refl) (parts p) b

but_last-push : (p : List ℕ) (b : ℕ) → but_last (parts (p ++ b ∷ [])) ≡ (if part_takes (tail p) b then but_last (parts p) else parts p)
but_last-push p b = ap but_last (parts-push p b) ∙ but_last-pushed part_takes (λ _. refl) (parts p) b

-- the items of a text are those that have ended and the open one
pub items-split : (p : List ℕ) → items p ≡ whole p ++ opened_readings (tail p)
unfolding items whole
items-split p =
    flat_map-split readings_of refl (parts p) ∙ (
    ap (λ more. flat_map readings_of (but_last (parts p)) ++ more) (elim (is_open (tail p)) as (λ t. readings_of (tail p) ≡ (if t then [] else readings_of (tail p)) ++ (if t then readings_of (tail p) else [])) [
      | true ↦ refl
      | false ↦ sym (append-nil (readings_of (tail p)))
    ]) ∙ sym (append_assoc (flat_map readings_of (but_last (parts p))) (ended_readings (tail p)) (opened_readings (tail p))))

comment_says : (c : ℕ) (cs : List ℕ) → c ≡ 59 → readings_of (c ∷ cs) ≡ []
comment_says c cs e = rw e refl

pub goes_open : (c : ℕ) (cs : List ℕ) (b : ℕ) → (c == 59) ≡ false → part_takes (c ∷ cs) b ≡ true → is_open (c ∷ cs) ≡ true
goes_open c cs b e =
    let w = c ∷ cs in
    elim (c == 40) as (λ t. (if t then is_open_list w else piece_takes w b) ≡ true → (if t then is_open_list w else (if c == 34 then is_unclosed cs else not (is_single c || c == 59))) ≡ true) [
      | true ↦ λ h. h
      | false ↦ rw e (elim (c == 34) as (λ t. (if t then is_unclosed cs else (if is_single c then false else not (is_delimiter b))) ≡ true → (if t then is_unclosed cs else not (is_single c || false)) ≡ true) [
        | true ↦ λ h. h
        | false ↦ elim (is_single c) as (λ t. (if t then false else not (is_delimiter b)) ≡ true → not (t || false) ≡ true) [
          | true ↦ λ h. absurd (false≢true h)
          | false ↦ λ h. refl
        ]
      ])
    ]

-- a part that goes on has said nothing
pub taken-says : (w : List ℕ) (b : ℕ) → part_takes w b ≡ true → ended_readings w ≡ []
taken-says [] b = λ h. absurd (false≢true h)
taken-says (c ∷ cs) b =
    let w = c ∷ cs in
    let open_says : is_open w ≡ true → ended_readings w ≡ [] = λ e. rw e refl in
    elim (cases_eq c 59) as (λ _. part_takes w b ≡ true → ended_readings w ≡ []) [
      | inl e ↦ λ _. elim (is_open w) as (λ t. (if t then [] else readings_of w) ≡ []) [ true ↦ refl | false ↦ comment_says c cs e ]
      | inr e ↦ λ h. open_says (goes_open c cs b (ne_eqb c 59 e) h)
    ]

-- a text goes on in its last part
pub whole-taken : (p : List ℕ) (b : ℕ) → part_takes (tail p) b ≡ true → whole (p ++ b ∷ []) ≡ whole p ++ ended_readings (tail p ++ b ∷ [])
unfolding whole
whole-taken p b h =
    let front : but_last (parts (p ++ b ∷ [])) ≡ but_last (parts p) = but_last-push p b ∙ ap (λ t. if t then but_last (parts p) else parts p) h in
    let last : tail (p ++ b ∷ []) ≡ tail p ++ b ∷ [] = tail-push p b ∙ ap (λ t. if t then tail p ++ b ∷ [] else b ∷ []) h in
    rw (front, last, taken-says (tail p) b h) (ap (λ more. more ++ ended_readings (tail p ++ b ∷ [])) (sym (append-nil (flat_map readings_of (but_last (parts p))))))

whole-fresh_items : (p : List ℕ) (b : ℕ) → part_takes (tail p) b ≡ false → whole (p ++ b ∷ []) ≡ items p ++ ended_readings (b ∷ [])
unfolding whole items
whole-fresh_items p b h =
    let front : but_last (parts (p ++ b ∷ [])) ≡ parts p = but_last-push p b ∙ ap (λ t. if t then but_last (parts p) else parts p) h in
    let last : tail (p ++ b ∷ []) ≡ b ∷ [] = tail-push p b ∙ ap (λ t. if t then tail p ++ b ∷ [] else b ∷ []) h in rw (front, last) refl

-- a text goes on with a part of its own
pub whole-fresh : (p : List ℕ) (b : ℕ) → part_takes (tail p) b ≡ false → whole (p ++ b ∷ []) ≡ whole p ++ (opened_readings (tail p) ++ ended_readings (b ∷ []))
whole-fresh p b h = whole-fresh_items p b h ∙ (ap (λ more. more ++ ended_readings (b ∷ [])) (items-split p) ∙ append_assoc (whole p) (opened_readings (tail p)) (ended_readings (b ∷ [])))

-- no item of the text so far is too long: it is the last part that tells
pub over-split : (limit : ℕ) (p : List ℕ) → over limit p ≡ (list_any (is_longer limit) (but_last (parts p)) || is_longer limit (tail p))
unfolding over
over-split limit p = list_any-split (is_longer limit) refl (parts p)

any-parts : (limit : ℕ) (p : List ℕ) → over limit p ≡ list_any (is_longer limit) (parts p)
unfolding over
any-parts limit p = refl

pub over-push : (limit : ℕ) (p : List ℕ) (b : ℕ) → over limit p ≡ false → over limit (p ++ b ∷ []) ≡ is_longer limit (part_with (tail p) b)
over-push limit p b h =
    let split = or_parts (list_any (is_longer limit) (but_last (parts p))) (is_longer limit (tail p)) (sym (over-split limit p) ∙ h) in
    let front : list_any (is_longer limit) (if part_takes (tail p) b then but_last (parts p) else parts p) ≡ false = elim (part_takes (tail p) b) as (λ t. list_any (is_longer limit) (if t then but_last (parts p) else parts p) ≡ false) [
      | true ↦ split.0
      | false ↦ sym (any-parts limit p) ∙ h
    ] in
    over-split limit (p ++ b ∷ []) ∙ rw (but_last-push p b, front, tail-push p b) refl

pub longer-push : (limit : ℕ) (w : List ℕ) (b : ℕ) → is_longer limit w ≡ true → is_longer limit (w ++ b ∷ []) ≡ true
longer-push limit [] b h = absurd (false≢true h)
longer-push limit (c ∷ cs) b h =
    let both = and_parts (not (is_gap (c ∷ cs))) (nat_lt limit (length (c ∷ cs))) h in
    let lt = ltb-true limit (length (c ∷ cs)) both.1 in
    let more = length_push (c ∷ cs) b in and_from (not (is_gap (c ∷ cs))) (nat_lt limit (length (c ∷ cs ++ b ∷ []))) both.0 (lt-ltb limit (length (c ∷ cs ++ b ∷ [])) (omega arith))

-- an item that is too long stays so
pub over-kept : (limit : ℕ) (p : List ℕ) (b : ℕ) → over limit p ≡ true → over limit (p ++ b ∷ []) ≡ true
over-kept limit p b h =
    let q = is_longer limit in
    let P : Bool → Type 0 = λ t. (list_any q (if t then but_last (parts p) else parts p) || q (if t then tail p ++ b ∷ [] else b ∷ [])) ≡ true in
    let cases : (t : Bool) → P t = λ t. elim t as P [
      | true ↦ elim (or_cases (list_any q (but_last (parts p))) (q (tail p)) (sym (over-split limit p) ∙ h)) [
        | inl front ↦ or_left (list_any q (but_last (parts p))) (q (tail p ++ b ∷ [])) front
        | inr last ↦ or_right (list_any q (but_last (parts p))) (q (tail p ++ b ∷ [])) (longer-push limit (tail p) b last)
      ]
      | false ↦ or_left (list_any q (parts p)) (q (b ∷ [])) (sym (any-parts limit p) ∙ h)
    ] in over-split limit (p ++ b ∷ []) ∙ rw (but_last-push p b, tail-push p b) (cases (part_takes (tail p) b))
