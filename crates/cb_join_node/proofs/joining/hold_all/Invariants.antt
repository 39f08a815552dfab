use Rattle.std.proofs.Common.{◌≡◌, drop, map}
use Rattle.cb_exprs.specs.Terms.{term_of}
use Rattle.cb_matches.specs.Matches.{Partial}
use Rattle.cb_nodes.specs.Flat.{all_hold}
use Rattle.cb_join_node.proofs.joining.hold_all.Given as goal

abbrev pub invariant-loop-test : goal.invariant-loop-test
invariant-loop-test g l = (m : Partial) → m.env ≡ g.L.Lookup.bindings l.known → all_hold (map term_of (drop l.test-index l.tests)) m ≡ all_hold (map term_of l.tests) m
