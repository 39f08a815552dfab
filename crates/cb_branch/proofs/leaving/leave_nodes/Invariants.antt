use Rattle.std.proofs.Common.{◌≡◌, ◌+◌, take}
use Rattle.cb_alpha_network.specs.Networks.{AreAlphas, use_count}
use Rattle.cb_branch.proofs.EnteredNodes.{KeepsShapesFrom}
use Rattle.cb_branch.proofs.leaving.leave_nodes.Given as goal
use Rattle.cb_branch.specs.Entries.{AreNodesEntered}
use Rattle.cb_facts.specs.FactLists.{IndexedFacts}
use Rattle.cb_flat.specs.Taking.{pattern_count}
use Rattle.cb_branch.specs.Nodes.{flat_nodes}

abbrev pub invariant-loop-node : goal.invariant-loop-node
invariant-loop-node g l = record {
  place : l.number ≡ l.node-index;
  kept : KeepsShapesFrom l.rule l.branch l.node-index l.initial.network l.network;
  alphas : (fs : IndexedFacts) → AreAlphas l.initial.network fs → AreAlphas l.network fs;
  count : AreNodesEntered l.initial.network l.rule l.branch l.nodes
      → use_count l.network + pattern_count (flat_nodes (take l.node-index l.nodes)) ≡ use_count l.initial.network;
}
