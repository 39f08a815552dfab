use Rattle.std.proofs.Common.{◌≡◌, ◌+◌, ◌≤◌, drop, map}
use Rattle.cb_constraints.specs.Constraints.{constraint_of}
use Rattle.cb_constraints.specs.Rows.{fields_wanted}
use Rattle.cb_constraints.proofs.row.count_fields.Given as goal

abbrev pub invariant-loop-constraint : goal.invariant-loop-constraint
invariant-loop-constraint l =
    (l.fields + fields_wanted (map constraint_of (drop l.constraint-index l.constraints)) ≡ fields_wanted (map constraint_of l.constraints))
    × (l.fields ≤ l.constraint-index)
