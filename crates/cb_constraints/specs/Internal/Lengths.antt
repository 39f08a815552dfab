-- The lengths that `Segments` keeps.
use Rattle.std.specs.Prelude.{◌≡◌, ◌+◌, ◌<◌, ℕ, suc, List, [], ◌∷◌, ◌++◌, flat_map, replicate}
use Rattle.cb_constraints.specs.declared.segments.Segment.{Segment}

-- The lengths of the constraints for one field before a segment, and its own.
abbrev pub segment_lengths : Segment → List ℕ
segment_lengths s = replicate s.ones 1 ++ s.length ∷ []

-- those of segments one after another, and of so many fields after them
abbrev pub all_lengths : List Segment → ℕ → List ℕ
all_lengths ss ones = flat_map segment_lengths ss ++ replicate ones 1

-- each segment has the number of the constraints up to it and that of the fields that they took, where there are so many before
abbrev pub HasTotals : ℕ → ℕ → List Segment → Type 0
HasTotals count fields [] = Unit {0}
HasTotals count fields (s ∷ ss) = (s.count ≡ suc (count + s.ones)) × (s.fields ≡ fields + s.ones + s.length) × HasTotals s.count s.fields ss

-- how many constraints there are up to the last segment, and how many fields they took
abbrev pub last_count : ℕ → List Segment → ℕ
last_count count [] = count
last_count count (s ∷ ss) = last_count s.count ss

-- How many fields they took.
abbrev pub last_fields : ℕ → List Segment → ℕ
last_fields fields [] = fields
last_fields fields (s ∷ ss) = last_fields s.fields ss

-- a segment of this length after these and so many fields
abbrev pub IsNext : List Segment → ℕ → ℕ → Segment → Type 0
IsNext ss ones n s = (s.ones ≡ ones) × (s.length ≡ n) × (s.count ≡ suc (last_count 0 ss + ones)) × (s.fields ≡ last_fields 0 ss + ones + n)

-- these begin after the first so many constraints
abbrev pub BeginsBeyond : ℕ → List Segment → Type 0
BeginsBeyond count [] = Unit {0}
BeginsBeyond count (s ∷ ss) = count < s.count

-- the first of these segments, without some that begin after the first so many constraints
pub record IsFront (count : ℕ) (all front : List Segment) : Type 0 where
  pub others : List Segment
  pub parted : all ≡ front ++ others
  pub beyond : BeginsBeyond count others
