use Rattle.std.proofs.Common.{◌≡◌, ◌++◌, drop, map}
use Rattle.cb_constraints.specs.Constraints.{constraint_of}
use Rattle.cb_fit.proofs.placed.add_row.Given as goal
use Rattle.cb_fit.specs.FieldPlaces.{row_demands}
use Rattle.cb_fit.specs.Internal.Placed.{placed_of}

abbrev pub invariant-loop-constraint : goal.invariant-loop-constraint
invariant-loop-constraint l =
    (l.field ≡ l.constraint-index)
    × (map placed_of l.all.items ++ row_demands l.slot l.field (map constraint_of (drop l.constraint-index l.constraint-items)) ≡ map placed_of l.fn.all.items ++ row_demands l.slot 0 (map constraint_of l.constraint-items))
