-- The numbers of short names, from which their bytes can be read again.
use Rattle.std.specs.Prelude.{◌+◌, ◌*◌, ◌&&◌, ℕ, List, [], ◌∷◌, Bool, if◌then◌else◌, length, nat_le, nat_lt}
use Rattle.std.specs.List.{list_all}

-- the number whose digits to the base 256 are these bytes, the least first, and then a 1
abbrev pub number_of : List ℕ → ℕ
number_of [] = 1
number_of (x ∷ xs) = x + 256 * number_of xs

-- whether these are at most seven bytes
abbrev pub is_short : List ℕ → Bool
is_short xs = nat_le (length xs) 7 && list_all (λ x. nat_lt x 256) xs

-- the number of up to seven bytes; others have 0
unfoldable pub short_number : List ℕ → ℕ
short_number xs = if is_short xs then number_of xs else 0
