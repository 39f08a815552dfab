-- The order of the places of patterns.
use Rattle.std.specs.Ordering.{nat_cmp, ordering_then}
use Rattle.std.specs.declared.cmp.Ordering.{Ordering}
use Rattle.cb_alpha_network.specs.declared.node_place.NodePlace.{NodePlace}

-- places compare by their rules, then by their branches, then by their nodes
abbrev pub place_cmp : NodePlace → NodePlace → Ordering
place_cmp a b = ordering_then (nat_cmp a.rule b.rule) (ordering_then (nat_cmp a.branch b.branch) (nat_cmp a.node b.node))
