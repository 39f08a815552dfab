use Rattle.std.proofs.Common.{◌≡◌, ◌++◌, drop, map}
use Rattle.cb_constraints.specs.Binders.{binders_of}
use Rattle.cb_constraints.specs.Constraints.{check_of}
use Rattle.cb_fit.proofs.demands.add_variables.Given as goal

abbrev pub invariant-loop-check : goal.invariant-loop-check
invariant-loop-check l =
    l.all.items ++ binders_of (map check_of (drop l.check-index l.checks)) ≡ l.fn.all.items ++ binders_of (map check_of l.checks)
