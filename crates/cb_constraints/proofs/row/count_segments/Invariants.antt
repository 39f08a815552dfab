use Rattle.std.proofs.Common.{◌≡◌, ◌+◌, ◌≤◌, drop, map}
use Rattle.cb_constraints.specs.Constraints.{constraint_of}
use Rattle.cb_constraints.specs.Rows.{segments_wanted}
use Rattle.cb_constraints.proofs.row.count_segments.Given as goal

abbrev pub invariant-loop-constraint : goal.invariant-loop-constraint
invariant-loop-constraint l =
    (l.segments + segments_wanted (map constraint_of (drop l.constraint-index l.constraints)) ≡ segments_wanted (map constraint_of l.constraints))
    × (l.segments ≤ l.constraint-index)
