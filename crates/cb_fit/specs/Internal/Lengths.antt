-- Where the lengths of segments are. No public clause cites this module.
use Rattle.std.specs.Prelude.{ℕ, List, Option, Some, None, map, replicate, slice_index_or}
use Rattle.std.specs.Rc.{rc_value}
use Rattle.smallvec.specs.SmallVec.{SmallVec}
use Rattle.cb_fit.specs.declared.cuts.Lengths.{Lengths}
use Rattle.cb_fit.specs.declared.cuts.Lengths.TheVariants.{Ones, Short, Listed}

-- so many, each 1, or those that are kept
abbrev pub lengths_in : Lengths → List ℕ
lengths_in (Ones count) = replicate count 1
lengths_in (Short lengths) = lengths
lengths_in (Listed lengths) = (rc_value {X = SmallVec ℕ} lengths).items

-- the length at a place, if there are so many
abbrev pub length_at : List ℕ → ℕ → Option ℕ
length_at ns at = slice_index_or (map Some ns) at None
