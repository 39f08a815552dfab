-- How a piece's mode follows it byte by byte.
use Rattle.std.proofs.Common.{◌≡◌, ◌==◌, ℕ, true, false, not, List, [], ◌∷◌, ◌++◌, refl, if◌then◌else◌}
use Rattle.std.proofs.lemmas.Bool.{false≢true}
use Rattle.cb_forms.specs.Bytes.{is_line_end, is_single, is_delimiter}
use Rattle.cb_forms.specs.Pieces.{piece_takes}
use Rattle.cb_forms.specs.Internal.ScanStates.{quoted_mode, escaped_mode, mode_of, mode_takes, continued_mode, mode_is_open}
use Rattle.cb_forms.specs.Strings.{is_unclosed, is_unclosed_escaped}
use Rattle.cb_forms.specs.declared.lex_mode.LexMode.TheVariants.{Ended, Comment, Word}

mutual
  quoted-takes : (cs : List ℕ) (b : ℕ) → is_unclosed cs ≡ mode_takes (quoted_mode cs) b
  quoted-takes [] b = refl
  quoted-takes (c ∷ cs) b = elim (c == 34) as (λ t. (if t then false else (if c == 92 then is_unclosed_escaped cs else is_unclosed cs)) ≡ mode_takes (if t then Ended else (if c == 92 then escaped_mode cs else quoted_mode cs)) b) [
    | true ↦ refl
    | false ↦ elim (c == 92) as (λ t. (if t then is_unclosed_escaped cs else is_unclosed cs) ≡ mode_takes (if t then escaped_mode cs else quoted_mode cs) b) [
      | true ↦ escaped-takes cs b
      | false ↦ quoted-takes cs b
    ]
  ]

  escaped-takes : (cs : List ℕ) (b : ℕ) → is_unclosed_escaped cs ≡ mode_takes (escaped_mode cs) b
  escaped-takes [] b = refl
  escaped-takes (c ∷ cs) b = quoted-takes cs b

mutual
  pub quoted-open : (cs : List ℕ) → is_unclosed cs ≡ mode_is_open (quoted_mode cs)
  quoted-open [] = refl
  quoted-open (c ∷ cs) = elim (c == 34) as (λ t. (if t then false else (if c == 92 then is_unclosed_escaped cs else is_unclosed cs)) ≡ mode_is_open (if t then Ended else (if c == 92 then escaped_mode cs else quoted_mode cs))) [
    | true ↦ refl
    | false ↦ elim (c == 92) as (λ t. (if t then is_unclosed_escaped cs else is_unclosed cs) ≡ mode_is_open (if t then escaped_mode cs else quoted_mode cs)) [
      | true ↦ escaped-open cs
      | false ↦ quoted-open cs
    ]
  ]

  escaped-open : (cs : List ℕ) → is_unclosed_escaped cs ≡ mode_is_open (escaped_mode cs)
  escaped-open [] = refl
  escaped-open (c ∷ cs) = quoted-open cs

mutual
  quoted-push : (cs : List ℕ) (b : ℕ) → is_unclosed cs ≡ true → quoted_mode (cs ++ b ∷ []) ≡ continued_mode (quoted_mode cs) b
  quoted-push [] b = λ h. refl
  quoted-push (c ∷ cs) b =
      elim (c == 34) as (λ t. (if t then false else (if c == 92 then is_unclosed_escaped cs else is_unclosed cs)) ≡ true → (if t then Ended else (if c == 92 then escaped_mode (cs ++ b ∷ []) else quoted_mode (cs ++ b ∷ []))) ≡ continued_mode (if t then Ended else (if c == 92 then escaped_mode cs else quoted_mode cs)) b) [
        | true ↦ λ h. refl
        | false ↦ elim (c == 92) as (λ t. (if t then is_unclosed_escaped cs else is_unclosed cs) ≡ true → (if t then escaped_mode (cs ++ b ∷ []) else quoted_mode (cs ++ b ∷ [])) ≡ continued_mode (if t then escaped_mode cs else quoted_mode cs) b) [
          | true ↦ escaped-push cs b
          | false ↦ quoted-push cs b
        ]
      ]

  escaped-push : (cs : List ℕ) (b : ℕ) → is_unclosed_escaped cs ≡ true → escaped_mode (cs ++ b ∷ []) ≡ continued_mode (escaped_mode cs) b
  escaped-push [] b h = refl
  escaped-push (c ∷ cs) b h = quoted-push cs b h

-- a piece goes on with a byte where its mode takes it
pub piece-takes : (w : List ℕ) (b : ℕ) → piece_takes w b ≡ mode_takes (mode_of w) b
piece-takes [] b = refl
piece-takes (c ∷ cs) b =
    elim (c == 59) as (λ t. (if t then not (is_line_end b) else (if c == 34 then is_unclosed cs else (if is_single c then false else not (is_delimiter b)))) ≡ mode_takes (if t then Comment else (if c == 34 then quoted_mode cs else (if is_single c then Ended else Word))) b) [
      | true ↦ refl
      | false ↦ elim (c == 34) as (λ t. (if t then is_unclosed cs else (if is_single c then false else not (is_delimiter b))) ≡ mode_takes (if t then quoted_mode cs else (if is_single c then Ended else Word)) b) [
        | true ↦ quoted-takes cs b
        | false ↦ elim (is_single c) as (λ t. (if t then false else not (is_delimiter b)) ≡ mode_takes (if t then Ended else Word) b) [
          | true ↦ refl
          | false ↦ refl
        ]
      ]
    ]

-- the mode of a piece that has gone on
pub mode-push : (w : List ℕ) (b : ℕ) → piece_takes w b ≡ true → mode_of (w ++ b ∷ []) ≡ continued_mode (mode_of w) b
mode-push [] b = λ h. absurd (false≢true h)
mode-push (c ∷ cs) b =
    elim (c == 59) as (λ t. (if t then not (is_line_end b) else (if c == 34 then is_unclosed cs else (if is_single c then false else not (is_delimiter b)))) ≡ true → (if t then Comment else (if c == 34 then quoted_mode (cs ++ b ∷ []) else (if is_single c then Ended else Word))) ≡ continued_mode (if t then Comment else (if c == 34 then quoted_mode cs else (if is_single c then Ended else Word))) b) [
      | true ↦ λ h. refl
      | false ↦ elim (c == 34) as (λ t. (if t then is_unclosed cs else (if is_single c then false else not (is_delimiter b))) ≡ true → (if t then quoted_mode (cs ++ b ∷ []) else (if is_single c then Ended else Word)) ≡ continued_mode (if t then quoted_mode cs else (if is_single c then Ended else Word)) b) [
        | true ↦ quoted-push cs b
        | false ↦ elim (is_single c) as (λ t. (if t then false else not (is_delimiter b)) ≡ true → (if t then Ended else Word) ≡ continued_mode (if t then Ended else Word) b) [
          | true ↦ λ h. refl
          | false ↦ λ h. refl
        ]
      ]
    ]
