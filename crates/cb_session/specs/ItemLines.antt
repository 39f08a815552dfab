-- The items of a script, each with the line on which it begins.
use Rattle.std.specs.Prelude.{ℕ, ◌+◌, List, [], ◌∷◌, ◌++◌, map}
use Rattle.cb_forms.specs.Cutting.{joined}
use Rattle.cb_forms.specs.Items.{but_last, ended_readings, fitting_parts, last_part, parts, readings_of}
use Rattle.cb_forms.specs.Lines.{line_after, line_feeds}
use Rattle.cb_forms.specs.Trees.{Reading}

-- items that begin on this line
abbrev pub all_on : ℕ → List Reading → List (ℕ × Reading)
all_on line rs = map (λ r. (line, r)) rs

-- what these parts say, the first of which stands after so many line feeds
abbrev pub placed_parts : ℕ → List (List ℕ) → List (ℕ × Reading)
placed_parts feeds [] = []
placed_parts feeds (w ∷ ws) = all_on (line_after feeds) (readings_of w) ++ placed_parts (feeds + line_feeds w) ws

-- the line that follows these parts
abbrev pub line_past : List (List ℕ) → ℕ
line_past ws = line_after (line_feeds (joined ws))

-- the items of a text that have ended in it
unfoldable pub placed_whole : List ℕ → List (ℕ × Reading)
placed_whole p = placed_parts 0 (but_last (parts p)) ++ all_on (line_past (but_last (parts p))) (ended_readings (last_part (parts p)))

-- the items of a text before the first that is too long
unfoldable pub placed_fitting : ℕ → List ℕ → List (ℕ × Reading)
placed_fitting limit s = placed_parts 0 (fitting_parts limit (parts s))

-- the line on which the first item begins that is too long
unfoldable pub too_long_at : ℕ → List ℕ → ℕ
too_long_at limit s = line_past (fitting_parts limit (parts s))
