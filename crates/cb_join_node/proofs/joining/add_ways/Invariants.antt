use Rattle.std.proofs.Common.{◌≡◌, ◌≢◌, ◌++◌, List, map}
use Rattle.cb_fit.specs.WayValues.{way_of}
use Rattle.cb_fit.specs.Ways.{WayValue}
use Rattle.cb_join_node.specs.Joins.{IsOfWays}
use Rattle.cb_join_node.specs.Nodes.{tests_of}
use Rattle.cb_matches.specs.Chains.{Chain}
use Rattle.cb_token_lists.specs.Growth.{Comes}
use Rattle.cb_token_lists.specs.Partials.{partial_at}
use Rattle.cb_join_node.proofs.joining.add_ways.Given as goal

abbrev pub invariant-loop-way : goal.invariant-loop-way
invariant-loop-way g l =
    (done : List WayValue) × (done ++ map way_of l.way-iterator ≡ map way_of l.initial.way-iterator)
    × (Chain (λ v w. v ≢ w) (map way_of l.initial.way-iterator)
    → Comes l.initial.own l.own (IsOfWays l.asked.address (tests_of l.asked) (partial_at l.lists.sources.now l.lists.lists.now l.from l.number) l.number l.candidate l.index done))
