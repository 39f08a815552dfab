use Rattle.std.proofs.Common.{◌≡◌, ◌++◌, map}
use Rattle.std.specs.List.{flat_map}
use Rattle.cb_constraints.specs.PartValues.{asked_parts}
use Rattle.cb_fit.proofs.decision.chosen_in.Given as goal
use Rattle.cb_fit.specs.Comparisons.{choice_fields, demand_choice_fields}
use Rattle.cb_fit.specs.Decisions.{choice_field_of}
use Rattle.cb_fit.specs.Internal.Placed.{placed_of}

abbrev pub invariant-loop-placed : goal.invariant-loop-placed
invariant-loop-placed l =
    map choice_field_of l.all.items ++ flat_map demand_choice_fields (map placed_of l.placed-iterator.rest.items) ≡ choice_fields (asked_parts l.parts)
