use Rattle.std.proofs.Common.{◌≡◌, ◌<◌, ◌≤◌, ℕ, Some, slice_get, take}
use Rattle.cb_branch.proofs.entering.enter_nodes.Given as goal
use Rattle.cb_branch.specs.Entries.{AreRenumbered, GainsPatterns, IsNodeEntered, node_at}
use Rattle.cb_flat.specs.Taking.{pattern_count}
use Rattle.cb_branch.specs.Nodes.{flat_nodes}
use Rattle.cb_branch.specs.declared.node.Node.{Node}

abbrev pub invariant-loop-node : goal.invariant-loop-node
invariant-loop-node g l = record {
  place : l.number ≡ l.node-index;
  same : AreRenumbered l.initial.nodes l.nodes;
  left : (k : ℕ) → l.node-index ≤ k → slice_get l.nodes k ≡ slice_get l.initial.nodes k;
  entered : (k : ℕ) (n : Node g.row.T.Denot) → k < l.node-index → slice_get l.nodes k ≡ Some n → IsNodeEntered l.network (node_at l.rule l.branch k) n;
  gains : GainsPatterns l.facts (pattern_count (flat_nodes (take l.node-index l.initial.nodes))) l.initial.network l.network;
}
