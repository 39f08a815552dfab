use Rattle.std.proofs.Common.{◌≡◌, drop, map}
use Rattle.cb_constraints.specs.Constraints.{check_of}
use Rattle.cb_constraints.specs.Holding.{constants_hold, tested_value}
use Rattle.cb_constraints.proofs.holding.constants_hold.Given as goal

abbrev pub invariant-loop-check : goal.invariant-loop-check
invariant-loop-check l =
    constants_hold (tested_value l.tested) (map check_of (drop l.check-index l.checks))
    ≡ constants_hold (tested_value l.tested) (map check_of l.checks)
