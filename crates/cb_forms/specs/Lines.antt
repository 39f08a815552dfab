-- The lines of a text.
use Rattle.std.specs.Prelude.{◌==◌, ℕ, ◌+◌, ◌-◌, ◌^◌, List, count_by, length, min, take}
use Rattle.cb_forms.specs.Items.{rest}

-- how many line feeds are among these bytes
abbrev pub line_feeds : List ℕ → ℕ
line_feeds bytes = count_by (λ b. b == 10) bytes

-- The number of the line that comes after this many line feeds: from 1 to 2^64 - 1, where it stays.
abbrev pub line_after : ℕ → ℕ
line_after feeds = min (1 + feeds) (2 ^ 64 - 1)

-- The bytes of a text before the item that is open; all of them, where none is.
unfoldable pub before_open : List ℕ → List ℕ
before_open p = take (length p - length (rest p)) p

-- The line on which the item that is open begins; where none is, that of the next byte.
abbrev pub open_line : List ℕ → ℕ
open_line p = line_after (line_feeds (before_open p))
