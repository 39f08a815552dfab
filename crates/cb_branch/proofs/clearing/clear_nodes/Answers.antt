use Rattle.std.proofs.Common.{ℕ, ap, arith, get_or}
use Rattle.cb_branch.proofs.Clearings.{cleared_first, cleared_last, cleared_step}
use Rattle.cb_branch.proofs.clearing.clear_nodes.Goals as goal

pub loop-node-init : goal.loop-node-init
loop-node-init g c = cleared_first c.args.nodes.now

pub loop-node-preserved : goal.loop-node-preserved
loop-node-preserved g c =
    let nodes = c.loop-node.nodes in
    let i : ℕ = c.loop-node.node-index in
    cleared_step c.args.nodes.now nodes i (get_or nodes i c.node-item.result) c.clear_node.new.node (omega arith) (ap (get_or nodes i) c.node-item.is) c.clear_node.ensures.same
    c.clear_node.ensures.cleared c.loop-node.invariant

pub returns-clause-same : goal.returns-clause-same
returns-clause-same g c = c.loop-node.invariant.same

pub returns-clause-cleared : goal.returns-clause-cleared
returns-clause-cleared g c = cleared_last c.args.nodes.now c.loop-node.nodes c.loop-node.node-index c.loop-node.invariant (omega (arith, c.loop-node-test.false, c.loop-node.auto.node-index-end))
