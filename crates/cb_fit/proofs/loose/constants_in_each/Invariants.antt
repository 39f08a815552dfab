use Rattle.std.proofs.Common.{◌≡◌, ◌++◌, drop, map}
use Rattle.cb_constraints.specs.Constraints.{check_of}
use Rattle.cb_fit.proofs.loose.constants_in_each.Given as goal
use Rattle.cb_fit.specs.Shapes.{constants_in}

abbrev pub invariant-loop-checks : goal.invariant-loop-checks
invariant-loop-checks l =
    map (λ cs. map check_of cs.items) l.loose.items ++ map constants_in (map (λ cs. map check_of cs.items) (drop l.checks-index l.alternatives))
    ≡ map constants_in (map (λ cs. map check_of cs.items) l.alternatives)
