use Rattle.std.proofs.Common.{length}
use Rattle.cb_constraints.specs.Internal.Lengths.{IsFront}
use Rattle.cb_constraints.proofs.segments.cut_back.Given as goal

abbrev pub decreases-loop-segments : goal.decreases-loop-segments
decreases-loop-segments l = length l.segments.items

abbrev pub invariant-loop-segments : goal.invariant-loop-segments
invariant-loop-segments l = IsFront l.count l.fn.segments.items l.segments.items
