use Rattle.std.proofs.Common.{◌≡◌, ◌+◌, ◌≤◌, drop, map}
use Rattle.cb_constraints.specs.Constraints.{constraint_of}
use Rattle.cb_constraints.specs.Rows.{before_segments}
use Rattle.cb_constraints.proofs.row.count_leading.Given as goal

abbrev pub invariant-loop-constraint : goal.invariant-loop-constraint
invariant-loop-constraint l =
    (l.leading + before_segments (map constraint_of (drop l.constraint-index l.constraints)) ≡ before_segments (map constraint_of l.constraints))
    × (l.leading ≤ l.constraint-index)
