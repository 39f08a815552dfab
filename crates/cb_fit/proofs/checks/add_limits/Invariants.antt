use Rattle.std.proofs.Common.{◌≡◌, ◌++◌, [], drop, map, take}
use Rattle.cb_constraints.specs.Constraints.{check_of}
use Rattle.cb_fit.proofs.checks.add_limits.Given as goal
use Rattle.cb_fit.specs.Comparisons.{limited_checks}
use Rattle.cb_fit.specs.Internal.Reading.{limit_of}

abbrev pub invariant-loop-i : goal.invariant-loop-i
invariant-loop-i l =
    map limit_of l.all.items ++ limited_checks (map check_of (take l.i l.checks)) (map check_of (drop l.i l.checks))
    ≡ map limit_of l.fn.all.items ++ limited_checks [] (map check_of l.checks)
