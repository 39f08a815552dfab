use Rattle.std.proofs.Common.{◌≡◌, drop, map}
use Rattle.cb_constraints.specs.Constraints.{check_of}
use Rattle.cb_constraints.specs.Internal.{is_of_constants}
use Rattle.cb_constraints.proofs.holding.is_of_constants.Given as goal

abbrev pub invariant-loop-check : goal.invariant-loop-check
invariant-loop-check l = is_of_constants (map check_of (drop l.check-index l.checks)) ≡ is_of_constants (map check_of l.checks)
