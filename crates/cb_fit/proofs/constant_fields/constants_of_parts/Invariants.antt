use Rattle.std.proofs.Common.{◌≡◌, ◌++◌, map}
use Rattle.std.specs.List.{flat_map}
use Rattle.cb_constraints.specs.PartValues.{asked_parts}
use Rattle.cb_fit.proofs.constant_fields.constants_of_parts.Given as goal
use Rattle.cb_fit.specs.ConstantFields.{constant_fields, demand_constant_fields}
use Rattle.cb_fit.specs.Internal.Placed.{placed_of}

abbrev pub invariant-loop-placed : goal.invariant-loop-placed
invariant-loop-placed l =
    l.all.items ++ flat_map demand_constant_fields (map placed_of l.placed-iterator.rest.items) ≡ constant_fields (asked_parts l.parts)
