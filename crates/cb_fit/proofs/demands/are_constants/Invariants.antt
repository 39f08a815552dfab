use Rattle.std.proofs.Common.{◌≡◌, drop, map}
use Rattle.cb_constraints.specs.Constraints.{check_of}
use Rattle.cb_fit.specs.StandsAlone.{are_constants}
use Rattle.cb_fit.proofs.demands.are_constants.Given as goal

abbrev pub invariant-loop-check : goal.invariant-loop-check
invariant-loop-check l =
    are_constants (map check_of (drop l.check-index l.checks)) ≡ are_constants (map check_of l.checks)
