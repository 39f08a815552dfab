-- What the open part of a text becomes with one more byte.
use Rattle.std.specs.Prelude.{ℕ, List, [], ◌∷◌, ◌++◌, map, if◌then◌else◌}
use Rattle.cb_forms.specs.Items.{part_takes, readings_of, is_open}
use Rattle.cb_forms.specs.Trees.{Reading, reading_of}
use Rattle.cb_forms.specs.declared.cut.Cut.{Cut}
use Rattle.cb_forms.specs.Cuts.{cut_items}

abbrev pub cut_readings : Cut → List Reading
cut_readings given = map reading_of (cut_items given)

-- what an open part says if the text ends there
abbrev pub opened_readings : List ℕ → List Reading
opened_readings w = if is_open w then readings_of w else []

-- the bytes that are kept of a part
abbrev pub open_bytes : List ℕ → List ℕ
open_bytes w = if is_open w then w else []

-- the part that a text ends with, with one more byte
abbrev pub part_with : List ℕ → ℕ → List ℕ
part_with w b = if part_takes w b then w ++ b ∷ [] else b ∷ []

-- what has ended before one more byte, the part that a text ends with among it
abbrev pub readings_before : List ℕ → ℕ → List Reading
readings_before w b = if part_takes w b then [] else opened_readings w
