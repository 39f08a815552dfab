use Rattle.std.proofs.Common.{◌≡◌, ◌-◌, drop, length}
use Rattle.std.specs.Cmp.Lexicographic.{slice_cmp}
use Rattle.std.specs.Ordering.{nat_cmp}
use Rattle.cb_fit.specs.Internal.Lengths.{lengths_in}
use Rattle.cb_fit.proofs.cuts.in_turn.Given as goal

abbrev pub invariant-loop-length : goal.invariant-loop-length
invariant-loop-length l = slice_cmp nat_cmp (drop l.at (lengths_in l.lengths)) (drop l.at (lengths_in l.others)) ≡ slice_cmp nat_cmp (lengths_in l.lengths) (lengths_in l.others)

abbrev pub decreases-loop-length : goal.decreases-loop-length
decreases-loop-length l = length (lengths_in l.lengths) - l.at
