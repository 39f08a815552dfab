use Rattle.std.proofs.Common.{◌≡◌, ◌++◌, drop, map}
use Rattle.cb_constraints.specs.Constraints.{constraint_of}
use Rattle.cb_fit.proofs.shape.add_row.Given as goal
use Rattle.cb_fit.specs.ShapeKeys.{row_pieces}

abbrev pub invariant-loop-constraint : goal.invariant-loop-constraint
invariant-loop-constraint l =
    l.all.items ++ row_pieces (map constraint_of (drop l.constraint-index l.constraints)) ≡ l.fn.all.items ++ row_pieces (map constraint_of l.constraints)
