-- The places of names in a list of names.
use Rattle.std.specs.Prelude.{ℕ, suc, List, [], ◌∷◌, Option, Some, None, option_map, if◌then◌else◌}
use Rattle.std.specs.Str.{bytes_eq}

-- the first place of the name among the names
abbrev pub place_in : List (List ℕ) → List ℕ → Option ℕ
place_in [] name = None
place_in (n ∷ names) name = if bytes_eq n name then Some 0 else option_map suc (place_in names name)
