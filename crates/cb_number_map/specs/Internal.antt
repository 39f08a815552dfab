-- What only the code needs.
use Rattle.std.specs.Prelude.{◌≡◌, ◌≢◌, ◌⊎◌, ℕ, None}
use Rattle.cb_number_map.specs.NumberMaps.{number_at}
use Rattle.cb_number_map.specs.declared.number_map.NumberMap.{NumberMap}

-- each key of the first map has in the second the same number
abbrev pub AreAmong : NumberMap → NumberMap → Type 0
AreAmong some all = (key : ℕ) → (number_at some key ≡ None) ⊎ (number_at some key ≡ number_at all key)

-- one map has for this key now what the other has, and for others what it had
pub record TakesOver (old new other : NumberMap) (key : ℕ) : Type 0 where
  pub changed : number_at new key ≡ number_at other key
  pub others : (k : ℕ) → k ≢ key → number_at new k ≡ number_at old k
