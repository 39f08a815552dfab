use Rattle.std.proofs.Common.{◌≡◌, ◌++◌, map}
use Rattle.std.specs.List.{flat_map}
use Rattle.cb_constraints.specs.PartValues.{asked_parts}
use Rattle.cb_fit.proofs.join_fields.fields_of_parts.Given as goal
use Rattle.cb_fit.specs.Internal.Placed.{placed_of}
use Rattle.cb_fit.specs.JoinFields.{demand_join_fields, join_fields}

abbrev pub invariant-loop-placed : goal.invariant-loop-placed
invariant-loop-placed l =
    l.all.items ++ flat_map demand_join_fields (map placed_of l.placed-iterator.rest.items) ≡ join_fields (asked_parts l.parts)
