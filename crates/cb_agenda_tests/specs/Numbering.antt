-- The numbers of matches in tests, by their keys.
use Rattle.std.specs.Prelude.{◌≡◌, ◌%◌, ℕ, List, [], ◌∷◌}
use Rattle.cb_matches.specs.Changes.{HaveNumbers, IsNumber, Numbers}
use Rattle.cb_matches.specs.Keys.{KeyValue, PartValue}

abbrev pub number_in : List PartValue → ℕ
number_in [] = 0
number_in (p ∷ ps) = p.index % 5

-- the number of a match: that of its fact, of which one in five has the same
abbrev pub number_of : KeyValue → ℕ
number_of k = number_in k.parts

-- the match has its number
abbrev pub IsOwn : KeyValue → ℕ → Type 0
IsOwn k n = n ≡ number_of k

-- each match that is due has its number
abbrev pub AreOwn : Numbers → Type 0
AreOwn all = (k : KeyValue) (n : ℕ) → IsNumber all k n → IsOwn k n
