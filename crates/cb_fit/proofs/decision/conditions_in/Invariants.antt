use Rattle.std.proofs.Common.{◌≡◌, ◌++◌, map}
use Rattle.std.specs.List.{flat_map}
use Rattle.cb_constraints.specs.PartValues.{asked_parts}
use Rattle.cb_fit.proofs.decision.conditions_in.Given as goal
use Rattle.cb_fit.specs.Comparisons.{conditions, demand_conditions}
use Rattle.cb_fit.specs.Decisions.{terms_at}
use Rattle.cb_fit.specs.FieldPlaces.{PlacedDemand}
use Rattle.cb_fit.specs.Internal.Placed.{placed_of}

abbrev pub invariant-loop-placed : goal.invariant-loop-placed
invariant-loop-placed l =
    terms_at l.all.items ++ flat_map (λ (d : PlacedDemand). demand_conditions d.demand) (map placed_of l.placed-iterator.rest.items)
    ≡ conditions (asked_parts l.parts)
