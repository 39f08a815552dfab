use Rattle.std.proofs.Common.{length}
use Rattle.cb_forms.specs.Internal.ListStacks.{frames_of}
use Rattle.cb_forms.proofs.ListLaws.{IsListSoFar}
use Rattle.cb_forms.proofs.list.read_list.Given as goal

abbrev pub invariant-loop-rest : goal.invariant-loop-rest
invariant-loop-rest l = IsListSoFar l.list (frames_of l.stack) l.rest

abbrev pub decreases-loop-rest : goal.decreases-loop-rest
decreases-loop-rest l = length l.rest
