use Rattle.std.proofs.Common.{◌≡◌, ◌++◌, drop, map}
use Rattle.cb_constraints.specs.Constraints.{constraint_of}
use Rattle.cb_fit.specs.Decided.{ones}
use Rattle.cb_fit.proofs.decision.add_row_ones.Given as goal

abbrev pub invariant-loop-constraint : goal.invariant-loop-constraint
invariant-loop-constraint l =
    l.all.items ++ ones (map constraint_of (drop l._constraint-index l.constraints)) ≡ l.fn.all.items ++ ones (map constraint_of l.constraints)
