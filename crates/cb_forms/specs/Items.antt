-- The items of a text.
use Rattle.std.specs.Prelude.{◌≡◌, ◌==◌, ◌||◌, ◌&&◌, ℕ, Bool, true, false, not, List, [], ◌∷◌, ◌++◌, Result, Ok, Err, length, nat_lt, count_by, if◌then◌else◌}
use Rattle.std.specs.List.{flat_map, list_any}
use Rattle.cb_forms.specs.Bytes.{is_blank, is_single, begins_with, closing, opening, quote, semicolon}
use Rattle.cb_forms.specs.Cutting.{cut, AreCut, joined}
use Rattle.cb_forms.specs.Lists.{list_reading}
use Rattle.cb_forms.specs.Pieces.{piece_takes, pieces, lexeme_of, lexemes}
use Rattle.cb_forms.specs.Strings.{is_unclosed}
use Rattle.cb_forms.specs.Trees.{atom, Reading}
use Rattle.cb_forms.specs.declared.fault.Fault.{Fault}
use Rattle.cb_forms.specs.declared.fault.Fault.TheVariants.{FormNotClosed, UnmatchedParenthesis}
use Rattle.cb_forms.specs.declared.lexeme.Lexeme.{Lexeme}
use Rattle.cb_forms.specs.declared.lexeme.Lexeme.TheVariants.{Gap, Opening, Closing, Atom}
use Rattle.cb_forms.specs.declared.token.Token.{Token}

-- How many of these pieces begin with `(`.
abbrev pub openings : List (List ℕ) → ℕ
openings ps = count_by (begins_with opening) ps

-- How many of them begin with `)`.
abbrev pub closings : List (List ℕ) → ℕ
closings ps = count_by (begins_with closing) ps

-- More parentheses open than close among the pieces, so those in strings and comments don't count.
unfoldable pub is_open_list : List ℕ → Bool
is_open_list w = nat_lt (closings (pieces w)) (openings (pieces w))

-- A text has parts: its items, and the blanks and comments between them. A list goes on through its matching `)`, or to
-- the end of the text, and any other part is one piece.
abbrev pub part_takes : List ℕ → ℕ → Bool
part_takes [] b = false
part_takes (c ∷ cs) b = if c == opening then is_open_list (c ∷ cs) else piece_takes (c ∷ cs) b

unfoldable pub parts : List ℕ → List (List ℕ)
parts s = cut part_takes s

-- the part is a blank or a comment, or there is none
abbrev pub is_gap : List ℕ → Bool
is_gap [] = true
is_gap (c ∷ cs) = is_blank c || c == semicolon

-- what an atom says
abbrev pub atom_reading : Result Token Fault → Reading
atom_reading (Ok t) = Ok (atom t)
atom_reading (Err f) = Err f

-- What a piece says outside every list: nothing for a gap, CB02 for a `)`, and its token or fault for an atom.
abbrev pub piece_readings : Lexeme → List Reading
piece_readings Gap = []
piece_readings Opening = []
piece_readings Closing = Err UnmatchedParenthesis ∷ []
piece_readings (Atom r) = atom_reading r ∷ []

-- the item that a part is, or none for a gap: a list or a string that is open at the end is that fault whatever it holds
abbrev pub readings_of : List ℕ → List Reading
readings_of w =
    if begins_with opening w then (if is_open_list w then Err FormNotClosed else list_reading (lexemes w)) ∷ []
    else piece_readings (lexeme_of w)

-- the items of a text
unfoldable pub items : List ℕ → List Reading
items s = flat_map readings_of (parts s)

-- The parts of a text, as a relation: put together they are the text, and each goes on as long as its kind does.
pub record ArePartsOf (s : List ℕ) (ws : List (List ℕ)) : Type 0 where
  pub together : joined ws ≡ s
  pub each : AreCut part_takes ws

-- a text reads as these items: they are what its parts say, in order
abbrev pub Reads : List ℕ → List Reading → Type 0
Reads s rs = (ws : List (List ℕ)) × ArePartsOf s ws × (rs ≡ flat_map readings_of ws)

abbrev pub but_last : List (List ℕ) → List (List ℕ)
but_last [] = []
but_last (w ∷ []) = []
but_last (w ∷ v ∷ ws) = w ∷ but_last (v ∷ ws)

abbrev pub last_part : List (List ℕ) → List ℕ
last_part [] = []
last_part (w ∷ []) = w
last_part (w ∷ v ∷ ws) = last_part (v ∷ ws)

-- At the end of a text the item has no last byte of its own: it is an open list, an open string or a word.
abbrev pub is_open : List ℕ → Bool
is_open [] = false
is_open (c ∷ cs) = if c == opening then is_open_list (c ∷ cs) else (if c == quote then is_unclosed cs else not (is_single c || c == semicolon))

-- what a part at the end of a text says there, if it has ended
abbrev pub ended_readings : List ℕ → List Reading
ended_readings w = if is_open w then [] else readings_of w

-- the items of a text that have ended in it
unfoldable pub whole : List ℕ → List Reading
whole p = flat_map readings_of (but_last (parts p)) ++ ended_readings (last_part (parts p))

-- the bytes of the item that is still open, if there is one
unfoldable pub rest : List ℕ → List ℕ
rest p = if is_open (last_part (parts p)) then last_part (parts p) else []

-- an item of more bytes than the limit, inner blanks and comments counted
abbrev pub is_longer : ℕ → List ℕ → Bool
is_longer limit w = not (is_gap w) && nat_lt limit (length w)

-- some item, open or ended, has more bytes than the limit
unfoldable pub over : ℕ → List ℕ → Bool
over limit p = list_any (is_longer limit) (parts p)

-- the parts of a text before the first item that is too long
abbrev pub fitting_parts : ℕ → List (List ℕ) → List (List ℕ)
fitting_parts limit [] = []
fitting_parts limit (w ∷ ws) = if is_longer limit w then [] else w ∷ fitting_parts limit ws

-- the items of a text before the first that is too long
unfoldable pub fitting : ℕ → List ℕ → List Reading
fitting limit s = flat_map readings_of (fitting_parts limit (parts s))
