use Rattle.std.proofs.Common.{◌≡◌, ◌≤◌, drop, length, map}
use Rattle.cb_constraints.specs.Constraints.{constraint_of}
use Rattle.cb_constraints.specs.Internal.RowFields.{row_fields}
use Rattle.cb_fit.specs.Internal.{may_take}
use Rattle.cb_fit.proofs.may_take.may_take.Given as goal

abbrev pub invariant-loop-constraint : goal.invariant-loop-constraint
invariant-loop-constraint l =
    (l.at ≤ length (row_fields l.fields))
    × (may_take (map constraint_of (drop l.constraint-index l.constraints)) (drop l.at (row_fields l.fields))
    ≡ may_take (map constraint_of l.constraints) (drop l.fn.from (row_fields l.fields)))
