use Rattle.std.proofs.Common.{◌≡◌, ◌++◌, drop}
use Rattle.std.specs.List.{flat_map}
use Rattle.cb_constraints.specs.Internal.Lengths.{segment_lengths}
use Rattle.cb_constraints.proofs.segments.add_lengths.Given as goal

abbrev pub invariant-loop-segment : goal.invariant-loop-segment
invariant-loop-segment l = l.all.items ++ flat_map segment_lengths (drop l.segment-index l.segments) ≡ l.initial.all.items ++ flat_map segment_lengths l.segments
