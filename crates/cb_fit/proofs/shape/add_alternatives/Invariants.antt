use Rattle.std.proofs.Common.{◌≡◌, ◌++◌, drop, flat_map}
use Rattle.cb_fit.proofs.shape.add_alternatives.Given as goal
use Rattle.cb_fit.specs.Internal.Reading.{alternatives_of}
use Rattle.cb_fit.specs.ShapeKeys.{alternative_pieces}

abbrev pub invariant-loop-checks : goal.invariant-loop-checks
invariant-loop-checks l =
    l.all.items ++ flat_map alternative_pieces (alternatives_of (drop l.checks-index l.alternatives)) ≡ l.fn.all.items ++ flat_map alternative_pieces (alternatives_of l.alternatives)
