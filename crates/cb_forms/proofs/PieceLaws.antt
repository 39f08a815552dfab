-- Reading a text piece by piece.
use Rattle.std.proofs.Common.{◌≡◌, ◌==◌, ◌<◌, ◌≤◌, ℕ, ◌+◌, Bool, true, false, List, [], ◌∷◌, ◌++◌, length, get_or, take, drop, refl, sym, ap, ◌∙◌, subst, append_assoc, inl, inr, arith, if◌then◌else◌}
use Rattle.std.proofs.lemmas.Bool.{false≢true, cases_eq, ne_eqb}
use Rattle.std.proofs.lemmas.List.{append-nil, drop_more, take_more, take-append-drop, drop-drop}
use Rattle.cb_forms.specs.Bytes.{is_blank}
use Rattle.cb_forms.specs.Cutting.{cut_from}
use Rattle.cb_forms.specs.Pieces.{piece_takes, pieces, lexeme_of}
use Rattle.cb_forms.specs.Internal.ScanStates.{StaysIn, mode_of, mode_takes, fresh_mode, continued_mode, next_mode}
use Rattle.cb_forms.specs.Strings.{is_unclosed, is_unclosed_escaped}
use Rattle.cb_forms.specs.declared.lexeme.Lexeme.TheVariants.{Gap}
use Rattle.cb_forms.specs.declared.lex_mode.LexMode.{LexMode}
use Rattle.cb_forms.proofs.Modes.{piece-takes, mode-push}
use Rattle.cb_forms.proofs.Splits.{take-both, split-more, split-all, split-end}

-- the piece at the front of a text, as far as the first i bytes tell
pub record IsPieceSoFar (s : List ℕ) (i : ℕ) (mode : LexMode) : Type 0 where
  pub mode_is : mode ≡ mode_of (take i s)
  pub cut_is : cut_from piece_takes (take i s) (drop i s) ≡ pieces s

pub piece-begin : (s : List ℕ) → 0 < length s → IsPieceSoFar s 1 (fresh_mode (get_or s 0 0))
unfolding pieces
piece-begin [] h = absurd (omega arith)
piece-begin (x ∷ xs) h = record { mode_is = refl; cut_is = refl }

pub piece-more : (s : List ℕ) (i : ℕ) (m : LexMode) → i < length s → IsPieceSoFar s i m → mode_takes m (get_or s i 0) ≡ true → IsPieceSoFar s (i + 1) (next_mode m (get_or s i 0))
piece-more s i m lt so_far h =
    let b = get_or s i 0 in
    let takes : piece_takes (take i s) b ≡ true = piece-takes (take i s) b ∙ (ap (λ it. mode_takes it b) (sym so_far.mode_is) ∙ h) in record {
      mode_is = ap (λ t. if t then continued_mode m b else fresh_mode b) h ∙ (ap (λ it. continued_mode it b) so_far.mode_is ∙ (sym (mode-push (take i s) b takes) ∙ ap mode_of (sym (take_more s i 0 lt))));
      cut_is = split-more piece_takes s i lt takes ∙ so_far.cut_is;
    }

pub piece-all : (s : List ℕ) (i : ℕ) (m : LexMode) → length s ≤ i → IsPieceSoFar s i m → pieces s ≡ take i s ∷ pieces (drop i s)
unfolding pieces
piece-all s i m le so_far = sym so_far.cut_is ∙ split-all piece_takes s i le

pub piece-end : (s : List ℕ) (i : ℕ) (m : LexMode) → i < length s → IsPieceSoFar s i m → mode_takes m (get_or s i 0) ≡ false → pieces s ≡ take i s ∷ pieces (drop i s)
unfolding pieces
piece-end s i m lt so_far h =
    let takes : piece_takes (take i s) (get_or s i 0) ≡ false = piece-takes (take i s) (get_or s i 0) ∙ (ap (λ it. mode_takes it (get_or s i 0)) (sym so_far.mode_is) ∙ h) in
    sym so_far.cut_is ∙ split-end piece_takes s i lt takes

piece-stays : (w run rest : List ℕ) (m : LexMode) → m ≡ mode_of w → StaysIn m run → (m ≡ mode_of (w ++ run)) × (cut_from piece_takes w (run ++ rest) ≡ cut_from piece_takes (w ++ run) rest)
piece-stays w [] rest m is stays = (is ∙ ap mode_of (sym (append-nil w)), ap (λ v. cut_from piece_takes v rest) (sym (append-nil w)))
piece-stays w (b ∷ bs) rest m is stays =
    let takes : piece_takes w b ≡ true = piece-takes w b ∙ (ap (λ it. mode_takes it b) (sym is) ∙ stays.0) in
    let same : m ≡ mode_of (w ++ b ∷ []) = sym stays.1 ∙ (ap (λ it. continued_mode it b) is ∙ sym (mode-push w b takes)) in
    let more = piece-stays (w ++ b ∷ []) bs rest m same stays.2 in
    let all : (w ++ b ∷ []) ++ bs ≡ w ++ b ∷ bs = append_assoc w (b ∷ []) bs in
    let one : cut_from piece_takes w (b ∷ bs ++ rest) ≡ cut_from piece_takes (w ++ b ∷ []) (bs ++ rest) = ap (λ t. if t then cut_from piece_takes (w ++ b ∷ []) (bs ++ rest) else w ∷ cut_from piece_takes (b ∷ []) (bs ++ rest)) takes in
    (more.0 ∙ ap mode_of all, one ∙ (more.1 ∙ ap (λ v. cut_from piece_takes v rest) all))

-- the piece goes on with a run of bytes, and waits for the same
pub piece-run : (s rest : List ℕ) (i n : ℕ) (m : LexMode) → rest ≡ drop i s → IsPieceSoFar s i m → StaysIn m (take n rest) → IsPieceSoFar s (i + n) m
piece-run s rest i n m is so_far stays =
    let P : List ℕ → Type 0 = λ it. StaysIn m (take n it) in
    let run = take n (drop i s) in
    let more = piece-stays (take i s) run (drop (i + n) s) m so_far.mode_is (subst P is stays) in
    let left : run ++ drop (i + n) s ≡ drop i s = ap (λ it. run ++ it) (sym (drop-drop n i s)) ∙ take-append-drop n (drop i s) in record {
      mode_is = more.0 ∙ ap mode_of (sym (take-both i n s));
      cut_is = ap (λ v. cut_from piece_takes v (drop (i + n) s)) (take-both i n s) ∙ (sym more.1 ∙ (ap (cut_from piece_takes (take i s)) left ∙ so_far.cut_is));
    }

not_blank : (b k : ℕ) → is_blank b ≡ true → is_blank k ≡ false → (b == k) ≡ false
not_blank b k blank other = elim (cases_eq b k) as (λ _. (b == k) ≡ false) [
  | inl e ↦ absurd (false≢true (sym other ∙ (ap is_blank (sym e) ∙ blank)))
  | inr e ↦ ne_eqb b k e
]

blank-alone : (b c : ℕ) → is_blank b ≡ true → piece_takes (b ∷ []) c ≡ false
blank-alone b c blank = rw (not_blank b 59 blank refl, not_blank b 34 blank refl, blank) refl

-- a blank is a piece of its own
pub blank-first : (s : List ℕ) → 0 < length s → is_blank (get_or s 0 0) ≡ true → (pieces s ≡ (get_or s 0 0 ∷ []) ∷ pieces (drop 1 s)) × (Gap ≡ lexeme_of (get_or s 0 0 ∷ []))
unfolding pieces
blank-first [] some blank = absurd (omega arith)
blank-first (b ∷ []) some blank = (refl, rw blank refl)
blank-first (b ∷ c ∷ cs) some blank = (ap (λ t. if t then cut_from piece_takes (b ∷ c ∷ []) cs else (b ∷ []) ∷ cut_from piece_takes (c ∷ []) cs) (blank-alone b c blank), rw blank refl)

-- whether the rest of a string holds no closing quote, after a backslash or not
abbrev pub unclosed_from : Bool → List ℕ → Bool
unclosed_from escaped s = if escaped then is_unclosed_escaped s else is_unclosed s

pub unclosed-escaped : (s : List ℕ) (i : ℕ) (e : Bool) → i < length s → e ≡ true → unclosed_from e (drop i s) ≡ is_unclosed (drop (i + 1) s)
unclosed-escaped s i e lt h = rw (h, drop_more s i 0 lt) refl

pub unclosed-more : (s : List ℕ) (i : ℕ) (e : Bool) → i < length s → e ≡ false → (get_or s i 0 ≡ 34 → ⊥) → unclosed_from e (drop i s) ≡ unclosed_from (get_or s i 0 == 92) (drop (i + 1) s)
unclosed-more s i e lt h q = rw (h, drop_more s i 0 lt, ne_eqb (get_or s i 0) 34 q) refl
