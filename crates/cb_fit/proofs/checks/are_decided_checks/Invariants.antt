use Rattle.std.proofs.Common.{◌≡◌, [], drop, map, take}
use Rattle.cb_constraints.specs.Constraints.{check_of}
use Rattle.cb_fit.proofs.checks.are_decided_checks.Given as goal
use Rattle.cb_fit.specs.Comparisons.{are_decided_checks}

abbrev pub invariant-loop-check : goal.invariant-loop-check
invariant-loop-check l =
    are_decided_checks (map check_of (take l.check-index l.checks)) (map check_of (drop l.check-index l.checks)) ≡ are_decided_checks [] (map check_of l.checks)
