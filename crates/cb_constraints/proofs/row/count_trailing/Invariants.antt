use Rattle.std.proofs.Common.{◌≡◌, ◌+◌, ◌≤◌, drop, map}
use Rattle.cb_constraints.specs.Constraints.{constraint_of}
use Rattle.cb_constraints.specs.Rows.{after_segments, segments_wanted}
use Rattle.cb_constraints.proofs.row.count_trailing.Given as goal

abbrev pub invariant-loop-constraint : goal.invariant-loop-constraint
invariant-loop-constraint l =
    (l.left ≡ segments_wanted (map constraint_of (drop l.constraint-index l.constraints)))
    × (l.trailing + after_segments (map constraint_of (drop l.constraint-index l.constraints)) ≡ after_segments (map constraint_of l.constraints))
    × (l.trailing ≤ l.constraint-index)
