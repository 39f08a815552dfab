-- The map that finds the places of names.
use Rattle.std.specs.Prelude.{◌≡◌, ℕ, List, Option, Some, None, if◌then◌else◌}
use Rattle.std.specs.BTreeMap.{BTreeMap, get}
use Rattle.std.specs.Cmp.Lexicographic.{slice_cmp}
use Rattle.std.specs.Option.{option_or}
use Rattle.std.specs.Ordering.{nat_cmp}
use Rattle.std.specs.Str.{bytes_eq}
use Rattle.cb_facts.specs.Places.{place_in}

-- the place that the map has for a name
abbrev pub place_at : BTreeMap (List ℕ) ℕ → List ℕ → Option ℕ
place_at firsts name = get (slice_cmp nat_cmp) firsts name

-- the map has the first place of each of the names, and no other name
abbrev pub HasPlaces : BTreeMap (List ℕ) ℕ → List (List ℕ) → Type 0
HasPlaces firsts names = (name : List ℕ) → place_at firsts name ≡ place_in names name

-- the name has this place if it had none, and each other name the place that it had
abbrev pub NotesPlace : BTreeMap (List ℕ) ℕ → BTreeMap (List ℕ) ℕ → List ℕ → ℕ → Type 0
NotesPlace old new name place =
    (q : List ℕ) → place_at new q ≡ option_or (place_at old q) (if bytes_eq name q then Some place else None)
