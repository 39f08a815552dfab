-- How many facts name each relation.
use Rattle.std.specs.Prelude.{◌≡◌, ◌+◌, ◌-◌, ℕ, Bool, List, if◌then◌else◌}
use Rattle.std.specs.BTreeMap.{is_at}
use Rattle.std.specs.Cmp.Lexicographic.{slice_cmp}
use Rattle.std.specs.Map.{lookup}
use Rattle.std.specs.Option.{unwrap_or}
use Rattle.std.specs.Ordering.{nat_cmp}
use Rattle.std.specs.Str.{bytes_eq}

-- relations and the numbers that they have
abbrev pub Counts : Type 0
Counts = List (List ℕ × ℕ)

-- the number that the table has for the relation, or 0
abbrev pub count_of : Counts → List ℕ → ℕ
count_of counts relation = unwrap_or (lookup (is_at (slice_cmp nat_cmp relation)) counts) 0

-- no relation is counted
abbrev pub IsEmpty : Counts → Type 0
IsEmpty counts = (relation : List ℕ) → count_of counts relation ≡ 0

-- 1 where it is so, else 0
abbrev pub one_if : Bool → ℕ
one_if t = if t then 1 else 0

-- the relation is counted once more, and each other as often as before
abbrev pub HasOneMore : Counts → Counts → List ℕ → Type 0
HasOneMore old new relation = (q : List ℕ) → count_of new q ≡ count_of old q + one_if (bytes_eq relation q)

-- the relation is counted once less, if it was counted, and each other as often as before
abbrev pub HasOneLess : Counts → Counts → List ℕ → Type 0
HasOneLess old new relation = (q : List ℕ) → count_of new q ≡ count_of old q - one_if (bytes_eq relation q)
