-- The length that comes after segments.
use Rattle.std.specs.Prelude.{◌-◌, ◌==◌, ℕ, List, [], ◌∷◌, if◌then◌else◌}
use Rattle.cb_constraints.specs.declared.segments.Segment.{Segment}

-- that of the constraint with this number, where these are the segments that end after it, and those before them end before it
abbrev pub next_length : ℕ → List Segment → ℕ
next_length n [] = 1
next_length n (s ∷ ss) = if s.count - n == 1 then s.length else 1
