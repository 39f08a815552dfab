use Rattle.std.proofs.Common.{◌≡◌, ◌++◌, drop, map}
use Rattle.cb_constraints.specs.Constraints.{check_of}
use Rattle.cb_fit.proofs.loose.constants_in.Given as goal
use Rattle.cb_fit.specs.Shapes.{constants_in}

abbrev pub invariant-loop-check : goal.invariant-loop-check
invariant-loop-check l = map check_of l.constants.items ++ constants_in (map check_of (drop l.check-index l.checks)) ≡ constants_in (map check_of l.checks)
