use Rattle.std.proofs.Common.{◌≡◌, ◌++◌, [], drop, map, take}
use Rattle.cb_constraints.specs.Constraints.{check_of}
use Rattle.cb_fit.proofs.conditions.add_all.Given as goal
use Rattle.cb_fit.specs.Comparisons.{condition_checks}
use Rattle.cb_fit.specs.Decisions.{terms_at}

abbrev pub invariant-loop-i : goal.invariant-loop-i
invariant-loop-i l =
    terms_at l.all.items ++ condition_checks (map check_of (take l.i l.checks)) (map check_of (drop l.i l.checks))
    ≡ terms_at l.fn.all.items ++ condition_checks [] (map check_of l.checks)
