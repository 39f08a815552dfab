use Rattle.cb_branch.proofs.Endings.{AreEndedTo}
use Rattle.cb_branch.proofs.all_nodes.end_change.Given as goal

abbrev pub invariant-loop-list : goal.invariant-loop-list
invariant-loop-list l = AreEndedTo l.initial.lists l.lists l.list-index
