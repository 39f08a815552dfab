-- How the program finds a global among those that it keeps.
use Rattle.std.specs.Prelude.{◌≡◌, ℕ, List, suc, [], ◌∷◌, Option, Some, None, option_map, if◌then◌else◌}
use Rattle.std.specs.BTreeMap.{BTreeMap, get}
use Rattle.std.specs.Cmp.Lexicographic.{slice_cmp}
use Rattle.std.specs.Ordering.{nat_cmp}
use Rattle.cb_exprs.specs.GlobalTerms.{GlobalTerm}
use Rattle.std.specs.Str.{bytes_eq}

-- the place of the global with this name
abbrev pub place_of_global : List ℕ → List GlobalTerm → Option ℕ
place_of_global name [] = None
place_of_global name (h ∷ hs) = if bytes_eq h.0 name then Some 0 else option_map suc (place_of_global name hs)

-- the look-up by names gives each global's place, and nothing for any other name
abbrev pub AreFound : BTreeMap (List ℕ) ℕ → List GlobalTerm → Type 0
AreFound places globals = (name : List ℕ) → get (slice_cmp nat_cmp) places name ≡ place_of_global name globals
