-- The numbers of facts, by their indices.
use Rattle.std.specs.Prelude.{◌≡◌, ◌^◌, ℕ, Box, Option, if◌then◌else◌, nat_lt}
use Rattle.std.specs.BTreeMap as tree
use Rattle.std.specs.Option.{option_and_then}
use Rattle.std.specs.Ordering.{nat_cmp}
use Rattle.std.specs.declared.alloc.Global.{Global}
use Rattle.cb_alpha.specs.declared.fact_numbers.FactNumbers.{FactNumbers}
use Rattle.cb_alpha.specs.declared.fact_numbers.Tables.{Tables}
use Rattle.cb_number_map.specs.NumberMaps.{number_at}

-- the number under an index: of 32 bits in the table, and greater ones in the ordered map
abbrev pub number_in : Tables → ℕ → Option ℕ
number_in ts index = if nat_lt index (2 ^ 32) then number_at ts.short index else tree.get nat_cmp ts.long index

-- the same, if there are tables
abbrev pub number_within : Option (Box Tables Global) → ℕ → Option ℕ
number_within tables index = option_and_then (λ (b : Box Tables Global). number_in b.value index) tables

abbrev pub number_by : FactNumbers → ℕ → Option ℕ
number_by numbers index = number_within numbers.tables index

-- each index has the number that it had
abbrev pub AreSameNumbers : (ℕ → Option ℕ) → (ℕ → Option ℕ) → Type 0
AreSameNumbers old new = (index : ℕ) → new index ≡ old index
