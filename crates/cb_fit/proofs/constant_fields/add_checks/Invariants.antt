use Rattle.std.proofs.Common.{◌≡◌, ◌++◌, drop, map}
use Rattle.cb_constraints.specs.Constraints.{check_of}
use Rattle.cb_fit.proofs.constant_fields.add_checks.Given as goal
use Rattle.cb_fit.specs.ConstantFields.{constants_at, plain_constants}

abbrev pub invariant-loop-check : goal.invariant-loop-check
invariant-loop-check l =
    l.all.items ++ constants_at l.place (plain_constants (map check_of (drop l.check-index l.checks))) ≡ l.fn.all.items ++ constants_at l.place (plain_constants (map check_of l.checks))
