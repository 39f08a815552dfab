-- What a cutter was given and what it has returned.
use Rattle.std.specs.Prelude.{ℕ, Bool, false, List, [], map}
use Rattle.cb_forms.specs.Trees.{Reading, reading_of}
use Rattle.cb_forms.specs.declared.form.Item.{Item}

-- The bytes stepped and the items given since the cutter was new, or since its last end.
pub record Progress : Type 0 where
  pub limit : ℕ
  pub stepped : List ℕ
  pub given : List Item
  pub failed : Bool

-- a cutter as new
abbrev pub fresh_progress : ℕ → Progress
fresh_progress limit = record { limit = limit; stepped = []; given = []; failed = false }

-- What these items of the program say.
abbrev pub readings_in : List Item → List Reading
readings_in items = map reading_of items
