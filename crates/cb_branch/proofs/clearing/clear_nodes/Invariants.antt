use Rattle.cb_branch.proofs.Clearings.{AreClearedTo}
use Rattle.cb_branch.proofs.clearing.clear_nodes.Given as goal

abbrev pub invariant-loop-node : goal.invariant-loop-node
invariant-loop-node g l = AreClearedTo l.initial.nodes l.nodes l.node-index
