use Rattle.std.proofs.Common.{◌≡◌, [], map}
use Rattle.cb_constraints.specs.PartValues.{asked_parts}
use Rattle.cb_fit.proofs.settled.conditions_settle.Given as goal
use Rattle.cb_fit.specs.Comparisons.{are_settled_from}
use Rattle.cb_fit.specs.FieldPlaces.{PlacedDemand, placed_demands}
use Rattle.cb_fit.specs.Internal.Placed.{placed_of}

abbrev pub invariant-loop-placed : goal.invariant-loop-placed
invariant-loop-placed l =
    are_settled_from l.names l.before.items (map (λ (d : PlacedDemand). d.demand) (map placed_of l.placed-iterator.rest.items))
    ≡ are_settled_from l.names [] (map (λ (d : PlacedDemand). d.demand) (placed_demands (asked_parts l.parts)))
