-- A map from numbers to numbers.
use Rattle.std.specs.Prelude.{◌≡◌, ◌≢◌, ℕ, Option}
use Rattle.std.specs.BTreeMap.{get}
use Rattle.std.specs.Option.{option_or}
use Rattle.std.specs.Ordering.{nat_cmp}
use Rattle.cb_number_map.specs.Slots.{number_in}
use Rattle.cb_number_map.specs.declared.number_map.NumberMap.{NumberMap}

-- the number of a key, if the map has the key
unfoldable pub number_at : NumberMap → ℕ → Option ℕ
number_at numbers key = option_or (number_in numbers.table key) (get nat_cmp numbers.aside key)

-- each key has the number that it had
abbrev pub AreSameNumbers : NumberMap → NumberMap → Type 0
AreSameNumbers old new = (key : ℕ) → number_at new key ≡ number_at old key

-- this key has this number now, or none, and the others have those that they had
pub record Updates (old new : NumberMap) (key : ℕ) (number : Option ℕ) : Type 0 where
  pub changed : number_at new key ≡ number
  pub others : (other : ℕ) → other ≢ key → number_at new other ≡ number_at old other
