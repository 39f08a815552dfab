use Rattle.std.proofs.Common.{◌≡◌, drop, map}
use Rattle.cb_constraints.specs.Constraints.{constraint_of}
use Rattle.cb_fit.specs.StandsAlone.{row_alone}
use Rattle.cb_fit.proofs.standing_alone.row_alone.Given as goal

abbrev pub invariant-loop-constraint : goal.invariant-loop-constraint
invariant-loop-constraint l = row_alone (map constraint_of (drop l.constraint-index l.constraints)) ≡ row_alone (map constraint_of l.constraints)
