-- The order of partial matches: that of their parts alone.
use Rattle.std.specs.Prelude.{Bool}
use Rattle.std.specs.Cmp.Lexicographic.{pointwise, slice_cmp}
use Rattle.std.specs.Ordering.{on}
use Rattle.std.specs.declared.cmp.Ordering.{Ordering}
use Rattle.cb_matches.specs.Keys.{part_cmp, part_eq}
use Rattle.cb_matches.specs.Matches.{Partial}

abbrev pub partial_eq : Partial → Partial → Bool
partial_eq = on (λ m. m.parts) (pointwise part_eq)

-- part by part, as the parts of keys
abbrev pub partial_cmp : Partial → Partial → Ordering
partial_cmp = on (λ m. m.parts) (slice_cmp part_cmp)
