-- How the state at the end of a part follows it byte by byte.
use Rattle.std.proofs.Common.{◌≡◌, ◌≢◌, ◌==◌, ◌||◌, ◌<◌, ℕ, ◌+◌, ◌-◌, Bool, true, false, not, cond, List, [], ◌∷◌, ◌++◌, nat_lt, refl, sym, ap, ◌∙◌, inl, inr, arith, if◌then◌else◌}
use Rattle.std.proofs.lemmas.Bool.{false≢true, ltb-true, lt-ltb, le-ltb, cases_eq, cases_lt, ne_eqb}
use Rattle.std.specs.List.{count_by}
use Rattle.cb_forms.specs.Bytes.{is_single, begins_with}
use Rattle.cb_forms.specs.Items.{openings, closings, is_open_list, part_takes, last_part, is_open}
use Rattle.cb_forms.specs.Pieces.{piece_takes, pieces}
use Rattle.cb_forms.specs.Internal.ScanStates.{quoted_mode, mode_of, mode_takes, fresh_mode, continued_mode, next_mode, mode_is_open, next_depth, fresh_depth, mode_in, depth_in, IsStateIn}
use Rattle.cb_forms.specs.Strings.{is_unclosed}
use Rattle.cb_forms.specs.declared.lex_mode.LexMode.{LexMode}
use Rattle.cb_forms.specs.declared.lex_mode.LexMode.TheVariants.{Ended, Word}
use Rattle.cb_forms.proofs.CuttingLaws.{cut-push, pushed}
use Rattle.cb_forms.proofs.Lasts.{grown, last_part-pushed, count-pushed}
use Rattle.cb_forms.proofs.Modes.{piece-takes, mode-push, quoted-open}

pub pieces-push : (w : List ℕ) (b : ℕ) → pieces (w ++ b ∷ []) ≡ pushed piece_takes (pieces w) b
unfolding pieces
pieces-push w b = cut-push piece_takes w b

mode-grown : (w : List ℕ) (b : ℕ) → mode_of (grown piece_takes (λ _. refl) w b) ≡ next_mode (mode_of w) b
mode-grown w b =
    let P : Bool → Type 0 = λ t. piece_takes w b ≡ t → mode_of (if t then w ++ b ∷ [] else b ∷ []) ≡ (if t then continued_mode (mode_of w) b else fresh_mode b) in
    let cases : (t : Bool) → P t = λ t. elim t as P [
      | true ↦ λ e. mode-push w b e
      | false ↦ λ e. refl
    ] in rw (← piece-takes w b) (cases (piece_takes w b) refl)

-- the mode of the last piece, with one more byte
pub mode-pieces-push : (w : List ℕ) (b : ℕ) → mode_of (last_part (pieces (w ++ b ∷ []))) ≡ next_mode (mode_of (last_part (pieces w))) b
mode-pieces-push w b = ap (λ ps. mode_of (last_part ps)) (pieces-push w b) ∙ (ap mode_of (last_part-pushed piece_takes (λ _. refl) (pieces w) b) ∙ mode-grown (last_part (pieces w)) b)

count-pieces-push : (c : ℕ) (w : List ℕ) (b : ℕ) → count_by (begins_with c) (pieces (w ++ b ∷ [])) ≡ count_by (begins_with c) (pieces w) + (if mode_takes (mode_of (last_part (pieces w))) b then 0 else cond (b == c) 1 0)
count-pieces-push c w b = ap (count_by (begins_with c)) (pieces-push w b) ∙ (count-pushed piece_takes (λ _. refl) c (pieces w) b ∙ ap (λ t. count_by (begins_with c) (pieces w) + (if t then 0 else cond (b == c) 1 0)) (piece-takes (last_part (pieces w)) b))

-- the mode's depth with one more byte is that of the two counts
depths : (t : Bool) (b o c d : ℕ) → c < o → d ≡ o - c → (if t then d else (if b == 40 then d + 1 else (if b == 41 then d - 1 else d))) ≡ (o + (if t then 0 else cond (b == 40) 1 0)) - (c + (if t then 0 else cond (b == 41) 1 0))
depths true b o c d lt e = omega arith
depths false b o c d lt e = elim (cases_eq b 40) as (λ _. (if b == 40 then d + 1 else (if b == 41 then d - 1 else d)) ≡ (o + cond (b == 40) 1 0) - (c + cond (b == 41) 1 0)) [
  | inl h ↦ rw h (omega arith)
  | inr h ↦ rw (ne_eqb b 40 h) (elim (b == 41) as (λ t. (if t then d - 1 else d) ≡ (o + 0) - (c + cond t 1 0)) [
    | true ↦ omega arith
    | false ↦ omega arith
  ])
]

stays_open : (b d : ℕ) → 0 < d → b ≢ 41 → (if b == 40 then d + 1 else (if b == 41 then d - 1 else d)) ≡ 0 → ⊥
stays_open b d lt ne = rw (ne_eqb b 41 ne) (elim (b == 40) as (λ t. (if t then d + 1 else d) ≡ 0 → ⊥) [
  | true ↦ λ h. omega arith
  | false ↦ λ h. omega arith
])

-- a list that one more byte closes ends with it
closes : (m : LexMode) (b d : ℕ) → 0 < d → next_depth m d b ≡ 0 → next_mode m b ≡ Ended
closes m b d lt =
    elim (mode_takes m b) as (λ t. (if t then d else (if b == 40 then d + 1 else (if b == 41 then d - 1 else d))) ≡ 0 → (if t then continued_mode m b else fresh_mode b) ≡ Ended) [
      | true ↦ λ h. absurd (omega arith)
      | false ↦ λ h. elim (cases_eq b 41) as (λ _. fresh_mode b ≡ Ended) [
        | inl e ↦ rw e refl
        | inr e ↦ absurd (stays_open b d lt e h)
      ]
    ]

-- a part goes on with a byte where a list is open in it or its mode takes the byte
pub state-takes : (w : List ℕ) (m : LexMode) (d b : ℕ) → IsStateIn w m d → part_takes w b ≡ (nat_lt 0 d || mode_takes m b)
unfolding mode_in depth_in is_open_list
state-takes [] m d b at = rw (at.mode_is, at.depth_is) refl
state-takes (c ∷ cs) m d b at =
    let w = c ∷ cs in
    let P : Bool → Type 0 = λ t. (c == 40) ≡ t → m ≡ (if t then mode_of (last_part (pieces w)) else mode_of w) → d ≡ (if t then openings (pieces w) - closings (pieces w) else 0) → (if t then nat_lt (closings (pieces w)) (openings (pieces w)) else piece_takes w b) ≡ (nat_lt 0 d || mode_takes m b) in
    let cases : (t : Bool) → P t = λ t. elim t as P [
      | true ↦ λ e is_mode is_depth. elim (cases_lt (closings (pieces w)) (openings (pieces w))) as (λ _. nat_lt (closings (pieces w)) (openings (pieces w)) ≡ (nat_lt 0 d || mode_takes m b)) [
        | inl lt ↦ rw (lt-ltb (closings (pieces w)) (openings (pieces w)) lt, lt-ltb 0 d (omega arith)) refl
        | inr le ↦ rw (le-ltb (closings (pieces w)) (openings (pieces w)) le, le-ltb 0 d (omega arith), at.closed e (omega arith)) refl
      ]
      | false ↦ λ e is_mode is_depth. rw (is_depth, is_mode) (piece-takes w b)
    ] in cases (c == 40) refl at.mode_is at.depth_is

-- an item is open at the end of a part where a list is open in it or its mode is
pub state-open : (w : List ℕ) (m : LexMode) (d : ℕ) → IsStateIn w m d → is_open w ≡ (nat_lt 0 d || mode_is_open m)
unfolding mode_in depth_in is_open_list
state-open [] m d at = rw (at.mode_is, at.depth_is) refl
state-open (c ∷ cs) m d at =
    let w = c ∷ cs in
    let plain : (if c == 34 then is_unclosed cs else not (is_single c || c == 59)) ≡ mode_is_open (mode_of w) = elim (cases_eq c 59) as (λ _. (if c == 34 then is_unclosed cs else not (is_single c || c == 59)) ≡ mode_is_open (mode_of w)) [
      | inl e ↦ rw e refl
      | inr e ↦ rw (ne_eqb c 59 e) (elim (c == 34) as (λ t. (if t then is_unclosed cs else not (is_single c || false)) ≡ mode_is_open (if t then quoted_mode cs else (if is_single c then Ended else Word))) [
        | true ↦ quoted-open cs
        | false ↦ elim (is_single c) as (λ t. not (t || false) ≡ mode_is_open (if t then Ended else Word)) [ true ↦ refl | false ↦ refl ]
      ])
    ] in
    let P : Bool → Type 0 = λ t. (c == 40) ≡ t → m ≡ (if t then mode_of (last_part (pieces w)) else mode_of w) → d ≡ (if t then openings (pieces w) - closings (pieces w) else 0) → (if t then nat_lt (closings (pieces w)) (openings (pieces w)) else (if c == 34 then is_unclosed cs else not (is_single c || c == 59))) ≡ (nat_lt 0 d || mode_is_open m) in
    let cases : (t : Bool) → P t = λ t. elim t as P [
      | true ↦ λ e is_mode is_depth. elim (cases_lt (closings (pieces w)) (openings (pieces w))) as (λ _. nat_lt (closings (pieces w)) (openings (pieces w)) ≡ (nat_lt 0 d || mode_is_open m)) [
        | inl lt ↦ rw (lt-ltb (closings (pieces w)) (openings (pieces w)) lt, lt-ltb 0 d (omega arith)) refl
        | inr le ↦ rw (le-ltb (closings (pieces w)) (openings (pieces w)) le, le-ltb 0 d (omega arith), at.closed e (omega arith)) refl
      ]
      | false ↦ λ e is_mode is_depth. rw (is_depth, is_mode) plain
    ] in cases (c == 40) refl at.mode_is at.depth_is

-- the state in a part that goes on
pub state-push : (w : List ℕ) (m : LexMode) (d b : ℕ) → IsStateIn w m d → part_takes w b ≡ true → IsStateIn (w ++ b ∷ []) (next_mode m b) (next_depth m d b)
unfolding mode_in depth_in is_open_list
state-push [] m d b at = λ h. absurd (false≢true h)
state-push (c ∷ cs) m d b at =
    let w = c ∷ cs in
    let P : Bool → Type 0 = λ t. (c == 40) ≡ t → m ≡ (if t then mode_of (last_part (pieces w)) else mode_of w) → d ≡ (if t then openings (pieces w) - closings (pieces w) else 0) → (if t then nat_lt (closings (pieces w)) (openings (pieces w)) else piece_takes w b) ≡ true → IsStateIn (w ++ b ∷ []) (next_mode m b) (next_depth m d b) in
    let cases : (t : Bool) → P t = λ t. elim t as P [
      | true ↦ λ e is_mode is_depth is_open.
          let lt = ltb-true (closings (pieces w)) (openings (pieces w)) is_open in record {
            mode_is = rw (e, is_mode) (sym (mode-pieces-push w b));
            depth_is = rw (e, count-pieces-push 40 w b, count-pieces-push 41 w b, ← is_mode) (depths (mode_takes m b) b (openings (pieces w)) (closings (pieces w)) d lt is_depth);
            closed = λ _. closes m b d (omega arith);
          }
      | false ↦ λ e is_mode is_depth takes.
          let goes : mode_takes m b ≡ true = rw is_mode (sym (piece-takes w b) ∙ takes) in record {
            mode_is = ap (λ t. if t then continued_mode m b else fresh_mode b) goes ∙ (ap (λ it. continued_mode it b) is_mode ∙ (sym (mode-push w b takes) ∙ sym (ap (λ t. if t then mode_of (last_part (pieces (w ++ b ∷ []))) else mode_of (w ++ b ∷ [])) e)));
            depth_is = ap (λ t. if t then d else (if b == 40 then d + 1 else (if b == 41 then d - 1 else d))) goes ∙ (is_depth ∙ sym (ap (λ t. if t then openings (pieces (w ++ b ∷ [])) - closings (pieces (w ++ b ∷ [])) else 0) e));
            closed = λ begins. absurd (false≢true (sym e ∙ begins));
          }
    ] in cases (c == 40) refl at.mode_is at.depth_is

-- the state in a part that a byte begins
pub state-fresh : (b : ℕ) → IsStateIn (b ∷ []) (fresh_mode b) (fresh_depth b)
unfolding mode_in depth_in pieces
state-fresh b = record {
  mode_is = elim (b == 40) as (λ t. fresh_mode b ≡ (if t then fresh_mode b else fresh_mode b)) [ true ↦ refl | false ↦ refl ];
  depth_is = elim (cases_eq b 40) as (λ _. fresh_depth b ≡ (if b == 40 then openings ((b ∷ []) ∷ []) - closings ((b ∷ []) ∷ []) else 0)) [
    | inl e ↦ rw e refl
    | inr e ↦ rw (ne_eqb b 40 e) refl
  ];
  closed = λ begins. rw begins (λ none. absurd (omega arith));
}
