use Rattle.std.proofs.Common.{◌≡◌, ◌≤◌, length, map, take}
use Rattle.cb_branch.specs.Internal.Plans.{KeepsScopes, StandsAt, last_with, nodes_with}
use Rattle.cb_branch.specs.Nodes.{flat_nodes}
use Rattle.cb_rules.specs.Elements.{element_of, elements}
use Rattle.cb_branch.proofs.planning.+planning.Given as goal

abbrev pub invariant-add_nodes-loop-element : goal.invariant-add_nodes-loop-element
invariant-add_nodes-loop-element g l = record {
  made : nodes_with (flat_nodes l.nodes.items) l.end (elements (map element_of l.element-iterator.rest.items)) ≡ nodes_with (flat_nodes l.fn.nodes.items) l.fn.start (elements (map element_of l.fn.branch.items));
  to_last : last_with (flat_nodes l.nodes.items) l.end (elements (map element_of l.element-iterator.rest.items)) ≡ last_with (flat_nodes l.fn.nodes.items) l.fn.start (elements (map element_of l.fn.branch.items));
  fits : l.end.width ≤ length l.nodes.items;
  stands : StandsAt l.nodes.items l.end l.bound;
  scopes : KeepsScopes (flat_nodes l.fn.nodes.items) (flat_nodes l.nodes.items);
  bound : take (length l.fn.bound) l.bound ≡ l.fn.bound;
}
