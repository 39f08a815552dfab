use Rattle.std.proofs.Common.{◌≡◌, ◌++◌, drop, map}
use Rattle.cb_constraints.specs.Binders.{binders_of}
use Rattle.cb_constraints.specs.Constraints.{check_of}
use Rattle.cb_fit.proofs.join_fields.add_checks.Given as goal
use Rattle.cb_fit.specs.JoinFields.{fields_for}

abbrev pub invariant-loop-check : goal.invariant-loop-check
invariant-loop-check l =
    l.all.items ++ fields_for l.place (binders_of (map check_of (drop l.check-index l.checks))) ≡ l.fn.all.items ++ fields_for l.place (binders_of (map check_of l.checks))
