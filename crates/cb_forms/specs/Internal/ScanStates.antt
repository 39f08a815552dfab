-- Where a byte stands in a part: what the piece around it waits for, and how many lists are open.
use Rattle.std.specs.Prelude.{◌≡◌, ◌==◌, ◌||◌, ℕ, ◌+◌, ◌-◌, Bool, true, false, not, List, [], ◌∷◌, ⊤, nat_lt, if◌then◌else◌}
use Rattle.cb_forms.specs.Bytes.{is_line_end, is_single, is_delimiter, begins_with}
use Rattle.cb_forms.specs.Items.{openings, closings, last_part}
use Rattle.cb_forms.specs.Pieces.{pieces}
use Rattle.cb_forms.specs.declared.lex_mode.LexMode.{LexMode}
use Rattle.cb_forms.specs.declared.lex_mode.LexMode.TheVariants.{Ended, Comment, Word, Quoted, Escaped}

-- a string, by the bytes after its opening quote
abbrev mutual
  pub quoted_mode : List ℕ → LexMode
  quoted_mode [] = Quoted
  quoted_mode (b ∷ bs) = if b == 34 then Ended else (if b == 92 then escaped_mode bs else quoted_mode bs)

  pub escaped_mode : List ℕ → LexMode
  escaped_mode [] = Escaped
  escaped_mode (b ∷ bs) = quoted_mode bs

-- what a piece waits for
abbrev pub mode_of : List ℕ → LexMode
mode_of [] = Ended
mode_of (c ∷ cs) = if c == 59 then Comment else (if c == 34 then quoted_mode cs else (if is_single c then Ended else Word))

-- a piece of this mode goes on with the byte
abbrev pub mode_takes : LexMode → ℕ → Bool
mode_takes Ended b = false
mode_takes Comment b = not (is_line_end b)
mode_takes Word b = not (is_delimiter b)
mode_takes Quoted b = true
mode_takes Escaped b = true

-- the mode of a piece of one byte
abbrev pub fresh_mode : ℕ → LexMode
fresh_mode b = if b == 59 then Comment else (if b == 34 then Quoted else (if is_single b then Ended else Word))

-- the mode of a piece that has gone on with the byte
abbrev pub continued_mode : LexMode → ℕ → LexMode
continued_mode Ended b = Ended
continued_mode Comment b = Comment
continued_mode Word b = Word
continued_mode Quoted b = if b == 34 then Ended else (if b == 92 then Escaped else Quoted)
continued_mode Escaped b = Quoted

-- the mode after one more byte, of the same piece or of the next
abbrev pub next_mode : LexMode → ℕ → LexMode
next_mode m b = if mode_takes m b then continued_mode m b else fresh_mode b

-- an item's only or last piece that is not over
abbrev pub mode_is_open : LexMode → Bool
mode_is_open Ended = false
mode_is_open Comment = false
mode_is_open Word = true
mode_is_open Quoted = true
mode_is_open Escaped = true

-- how many lists are open after one more byte
abbrev pub next_depth : LexMode → ℕ → ℕ → ℕ
next_depth m d b = if mode_takes m b then d else (if b == 40 then d + 1 else (if b == 41 then d - 1 else d))

abbrev pub fresh_depth : ℕ → ℕ
fresh_depth b = if b == 40 then 1 else 0

-- a piece goes on with these bytes, and waits for the same after each of them
abbrev pub StaysIn : LexMode → List ℕ → Type 0
StaysIn m [] = ⊤
StaysIn m (b ∷ bs) = (mode_takes m b ≡ true) × (continued_mode m b ≡ m) × StaysIn m bs

-- An item that is open in a state goes on with the byte, and is open after it, in the next state.
pub record IsOpenStep (mode : LexMode) (depth b : ℕ) (next : LexMode) (deeper : ℕ) : Type 0 where
  pub takes : (nat_lt 0 depth || mode_takes mode b) ≡ true
  pub mode_is : next ≡ next_mode mode b
  pub depth_is : deeper ≡ next_depth mode depth b
  pub opens : (nat_lt 0 deeper || mode_is_open next) ≡ true

-- the same with these bytes, one after another, up to the last state
abbrev pub StaysOpen : LexMode → ℕ → List ℕ → LexMode → ℕ → Type 0
StaysOpen m d [] last deep = (last ≡ m) × (deep ≡ d)
StaysOpen m d (b ∷ bs) last deep =
    IsOpenStep m d b (next_mode m b) (next_depth m d b) × StaysOpen (next_mode m b) (next_depth m d b) bs last deep

-- the mode of a part's last piece
unfoldable pub mode_in : List ℕ → LexMode
mode_in w = if begins_with 40 w then mode_of (last_part (pieces w)) else mode_of w

-- how many lists are open at the end of a part
unfoldable pub depth_in : List ℕ → ℕ
depth_in w = if begins_with 40 w then openings (pieces w) - closings (pieces w) else 0

-- The mode and the depth at the end of a part; a list that is closed has ended.
pub record IsStateIn (w : List ℕ) (mode : LexMode) (depth : ℕ) : Type 0 where
  pub mode_is : mode ≡ mode_in w
  pub depth_is : depth ≡ depth_in w
  pub closed : begins_with 40 w ≡ true → depth ≡ 0 → mode ≡ Ended
