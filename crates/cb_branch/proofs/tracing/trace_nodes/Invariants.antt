use Rattle.std.proofs.Common.{◌≡◌, take}
use Rattle.cb_flat.specs.Sources.{sources_of}
use Rattle.cb_branch.proofs.tracing.trace_nodes.Given as goal
use Rattle.cb_branch.specs.Nodes.{flat_nodes}

abbrev pub invariant-loop-node : goal.invariant-loop-node
invariant-loop-node g l = l.sources.items ≡ sources_of (flat_nodes (take l.node-index l.nodes))
