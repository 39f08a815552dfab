use Rattle.std.proofs.Common.{◌≡◌, ◌++◌, [], map}
use Rattle.cb_constraints.specs.PartValues.{asked_parts}
use Rattle.cb_fit.proofs.own_fields.own_in.Given as goal
use Rattle.cb_fit.specs.Comparisons.{own_fields_from}
use Rattle.cb_fit.specs.FieldPlaces.{placed_demands}
use Rattle.cb_fit.specs.Internal.Placed.{placed_of}

abbrev pub invariant-loop-placed : goal.invariant-loop-placed
invariant-loop-placed l =
    l.all.items ++ own_fields_from l.before (map placed_of l.placed-iterator.rest.items) ≡ own_fields_from [] (placed_demands (asked_parts l.parts))
