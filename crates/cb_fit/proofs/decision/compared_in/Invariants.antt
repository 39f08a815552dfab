use Rattle.std.proofs.Common.{◌≡◌, ◌++◌, map}
use Rattle.cb_constraints.specs.PartValues.{asked_parts}
use Rattle.cb_fit.proofs.decision.compared_in.Given as goal
use Rattle.cb_fit.specs.Comparisons.{compared_fields, compared_from}
use Rattle.cb_fit.specs.Internal.Placed.{placed_of}

abbrev pub invariant-loop-placed : goal.invariant-loop-placed
invariant-loop-placed l =
    l.all.items ++ compared_from l.before (map placed_of l.placed-iterator.rest.items) ≡ compared_fields (asked_parts l.parts)
