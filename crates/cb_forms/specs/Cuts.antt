-- What a cutter gives, as readings.
use Rattle.std.specs.Prelude.{Bool, true, false, List, [], ◌∷◌, Option, Some, None}
use Rattle.cb_forms.specs.Trees.{Reading, reading_of}
use Rattle.cb_forms.specs.declared.cut.Cut.{Cut}
use Rattle.cb_forms.specs.declared.cut.Cut.TheVariants as cut
use Rattle.cb_forms.specs.declared.form.Item.{Item}

-- an item, if there is one
abbrev pub item_readings : Option Item → List Reading
item_readings None = []
item_readings (Some item) = reading_of item ∷ []

-- the items that a byte gave
abbrev pub cut_items : Cut → List Item
cut_items cut.More = []
cut_items (cut.Item item) = item ∷ []
cut_items (cut.TwoItems first second) = first ∷ second ∷ []
cut_items cut.TooLong = []

abbrev pub is_too_long : Cut → Bool
is_too_long cut.More = false
is_too_long (cut.Item item) = false
is_too_long (cut.TwoItems first second) = false
is_too_long cut.TooLong = true
