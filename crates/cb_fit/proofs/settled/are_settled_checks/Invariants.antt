use Rattle.std.proofs.Common.{◌≡◌, [], drop, map, take}
use Rattle.cb_constraints.specs.Constraints.{check_of}
use Rattle.cb_fit.proofs.settled.are_settled_checks.Given as goal
use Rattle.cb_fit.specs.Comparisons.{are_settled_checks}

abbrev pub invariant-loop-i : goal.invariant-loop-i
invariant-loop-i l =
    are_settled_checks l.names l.before (map check_of (take l.i l.checks)) (map check_of (drop l.i l.checks)) ≡ are_settled_checks l.names l.before [] (map check_of l.checks)
