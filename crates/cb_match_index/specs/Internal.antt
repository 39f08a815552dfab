-- Where the values of matches stand.
use Rattle.std.specs.Prelude.{ℕ, List, [], Option, None, Some, Vec, if◌then◌else◌, nat_eq, slice_get, slice_index_or}
use Rattle.std.specs.BTreeMap as tree
use Rattle.std.specs.BTreeMap.{BTreeMap}
use Rattle.std.specs.Option.{option_map_or}
use Rattle.std.specs.Ordering.{nat_cmp}
use Rattle.std.specs.declared.alloc.Global.{Global}

-- the value that a number stands for: itself, unless it is the greatest of 32 bits
abbrev pub value_of : ℕ → Option ℕ
value_of n = if nat_eq n 4294967295 then None else Some n

-- the value under the number of a match, of those of a branch
abbrev pub value_at : List ℕ → ℕ → Option ℕ
value_at values number = value_of (slice_index_or values number 4294967295)

-- the values of a branch
abbrev pub values_of : List (Vec ℕ Global) → ℕ → List ℕ
values_of branches branch = option_map_or (λ (v : Vec ℕ Global). v.items) (slice_get branches branch) []

-- the value under a branch and a number, of those of a rule
abbrev pub value_in : List (Vec ℕ Global) → ℕ × ℕ → Option ℕ
value_in branches place = value_at (values_of branches place.0) place.1

-- the branches of a rule
abbrev pub branches_of : BTreeMap ℕ (Vec (Vec ℕ Global) Global) → ℕ → List (Vec ℕ Global)
branches_of rules rule = option_map_or (λ (v : Vec (Vec ℕ Global) Global). v.items) (tree.get nat_cmp rules rule) []
