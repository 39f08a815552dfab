-- The open item of a text is one item.
use Rattle.std.proofs.Common.{◌≡◌, ◌≢◌, ◌∙◌, ◌==◌, ◌||◌, ℕ, Bool, true, false, List, [], ◌∷◌, Result, Ok, Err, refl, sym, ap, append-nil, if◌then◌else◌}
use Rattle.std.specs.List.{flat_map}
use Rattle.cb_forms.specs.Bytes.{ampersand, bar, closing, is_blank, opening, quote, semicolon, tilde}
use Rattle.cb_forms.specs.Cutting.{AreCut}
use Rattle.cb_forms.specs.Items.{atom_reading, is_open, is_open_list, items, last_part, part_takes, parts, piece_readings, readings_of, rest}
use Rattle.cb_forms.specs.Lists.{list_reading}
use Rattle.cb_forms.specs.Pieces.{lexeme_of, lexemes, string_token}
use Rattle.cb_forms.specs.Trees.{Reading, atom}
use Rattle.cb_forms.specs.Words.{token_of}
use Rattle.cb_forms.proofs.CuttingLaws.{are_cut-cut, cut-joined}
use Rattle.cb_forms.proofs.OpenPartLaws.{open-no_gap}
use Rattle.cb_forms.specs.declared.fault.Fault.{Fault}
use Rattle.cb_forms.specs.declared.fault.Fault.TheVariants.{FormNotClosed, UnmatchedParenthesis}
use Rattle.cb_forms.specs.declared.lexeme.Lexeme.TheVariants.{Atom, Closing, Gap, Opening}
use Rattle.cb_forms.specs.declared.token.Token.{Token}
use Rattle.cb_forms.specs.declared.token.Token.TheVariants.{And, Not, Or}
use Rattle.cb_session.proofs.OpenTexts.{rest_none, rest_open}

-- the last part of a cut is a cut by itself
cut_alone : (ws : List (List ℕ)) → AreCut part_takes ws → is_open (last_part ws) ≡ true → AreCut part_takes (last_part ws ∷ [])
cut_alone [] h opens = absurd (cc)
cut_alone ([] ∷ ws) h opens = absurd h
cut_alone ((c ∷ cs) ∷ []) h opens = h
cut_alone ((c ∷ cs) ∷ v ∷ ws) h opens = cut_alone (v ∷ ws) h.2 opens

-- what is no gap and no opening says one thing
piece_one : (gap opens closes and or not_ quoted : Bool) (string word : Result Token Fault) → gap ≡ false → opens ≡ false
    → (r : Reading)
    × (piece_readings (if gap then Gap else (
    if opens then Opening else (
    if closes then Closing else (if and then Atom (Ok And) else (if or then Atom (Ok Or) else (if not_ then Atom (Ok Not) else (if quoted then Atom string else Atom word)))))))
    ≡ r ∷ [])
piece_one true opens closes and or not_ quoted string word g o = absurd (cc)
piece_one false true closes and or not_ quoted string word g o = absurd (cc)
piece_one false false true and or not_ quoted string word g o = (Err UnmatchedParenthesis, refl)
piece_one false false false true or not_ quoted string word g o = (Ok (atom And), refl)
piece_one false false false false true not_ quoted string word g o = (Ok (atom Or), refl)
piece_one false false false false false true quoted string word g o = (Ok (atom Not), refl)
piece_one false false false false false false true string word g o = (atom_reading string, refl)
piece_one false false false false false false false string word g o = (atom_reading word, refl)

-- an open item says one thing
one_said : (w : List ℕ) → is_open w ≡ true → (r : Reading) × (readings_of w ≡ r ∷ [])
one_said [] h = absurd (cc)
one_said (c ∷ cs) h = by (c == opening) refl
  where
    by : (t : Bool) → (c == opening) ≡ t
        → (r : Reading) × ((if t then (if is_open_list (c ∷ cs) then Err FormNotClosed else list_reading (lexemes (c ∷ cs))) ∷ [] else piece_readings (lexeme_of (c ∷ cs))) ≡ r ∷ [])
    by true e = (if is_open_list (c ∷ cs) then Err FormNotClosed else list_reading (lexemes (c ∷ cs)), refl)
    by false e =
        piece_one (is_blank c || c == semicolon) (c == opening) (c == closing) (c == ampersand) (c == bar) (c == tilde) (c == quote) (string_token cs) (token_of (c ∷ cs)) (open-no_gap (c ∷ cs) h) e

open_part_alone : (p : List ℕ) → is_open (last_part (parts p)) ≡ true → parts (last_part (parts p)) ≡ last_part (parts p) ∷ []
unfolding parts
open_part_alone p h =
    ap parts (sym (append-nil (last_part (parts p))))
    ∙ cut-joined part_takes (last_part (parts p) ∷ []) (cut_alone (parts p) (are_cut-cut part_takes p) h)

by_open : (p : List ℕ) (t : Bool) → is_open (last_part (parts p)) ≡ t → rest p ≢ [] → (r : Reading) × (items (rest p) ≡ r ∷ [])
unfolding items
by_open p false e some = absurd (some (rest_none p e))
by_open p true e some =
    let one = one_said (last_part (parts p)) e in
    (one.0, ap items (rest_open p e) ∙ ap (flat_map readings_of) (open_part_alone p e) ∙ append-nil (readings_of (last_part (parts p))) ∙ one.1)

pub open_is_one : (p : List ℕ) → rest p ≢ [] → (r : Reading) × (items (rest p) ≡ r ∷ [])
open_is_one p some = by_open p (is_open (last_part (parts p))) refl some
