use Rattle.std.proofs.Common.{◌≡◌, ◌++◌, drop, map}
use Rattle.cb_constraints.specs.Constraints.{constraint_of}
use Rattle.cb_fit.proofs.loose.loose_row.Given as goal
use Rattle.cb_fit.specs.Shapes.{loose_constraint}

abbrev pub invariant-loop-constraint : goal.invariant-loop-constraint
invariant-loop-constraint l =
    map constraint_of l.loose.items ++ map loose_constraint (map constraint_of (drop l.constraint-index l.constraint-items)) ≡ map loose_constraint (map constraint_of l.constraint-items)
