-- Constraints in a row, and how many fields they take.
use Rattle.std.specs.Prelude.{◌+◌, ℕ, zero, List, [], ◌∷◌, nat_lt, if◌then◌else◌}
use Rattle.cb_constraints.specs.Constraints.{Constraint}

-- how many of the constraints take one field
abbrev pub fields_wanted : List Constraint → ℕ
fields_wanted [] = zero
fields_wanted (c ∷ cs) = (if c.segment then 0 else 1) + fields_wanted cs

-- how many of them take a segment
abbrev pub segments_wanted : List Constraint → ℕ
segments_wanted [] = zero
segments_wanted (c ∷ cs) = (if c.segment then 1 else 0) + segments_wanted cs

-- how many stand before the first that takes a segment: each of them has its place from the front
abbrev pub before_segments : List Constraint → ℕ
before_segments [] = zero
before_segments (c ∷ cs) = if c.segment then 0 else 1 + before_segments cs

-- how many stand after the last that takes a segment, or all where none does: each of them has its place from the end
abbrev pub after_segments : List Constraint → ℕ
after_segments [] = zero
after_segments (c ∷ cs) = (if nat_lt 0 (segments_wanted (c ∷ cs)) then 0 else 1) + after_segments cs
