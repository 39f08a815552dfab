use Rattle.std.proofs.Common.{◌≡◌, ◌++◌, drop, map}
use Rattle.cb_constraints.specs.Constraints.{check_of}
use Rattle.cb_fit.proofs.shape.add_checks.Given as goal
use Rattle.cb_fit.specs.ShapeKeys.{checks_pieces}

abbrev pub invariant-loop-check : goal.invariant-loop-check
invariant-loop-check l =
    l.all.items ++ checks_pieces (map check_of (drop l.check-index l.checks)) ≡ l.fn.all.items ++ checks_pieces (map check_of l.checks)
