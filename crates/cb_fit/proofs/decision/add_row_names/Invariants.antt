use Rattle.std.proofs.Common.{◌≡◌, ◌++◌, drop, map}
use Rattle.cb_constraints.specs.Binders.{binders_in}
use Rattle.cb_constraints.specs.Constraints.{constraint_of}
use Rattle.cb_fit.proofs.decision.add_row_names.Given as goal

abbrev pub invariant-loop-constraint : goal.invariant-loop-constraint
invariant-loop-constraint l =
    l.all.items ++ binders_in (map constraint_of (drop l.constraint-index l.constraints)) ≡ l.fn.all.items ++ binders_in (map constraint_of l.constraints)
