use Rattle.std.proofs.Common.{◌≡◌, drop, map}
use Rattle.std.specs.List.{list_all}
use Rattle.cb_constraints.specs.Constraints.{check_of}
use Rattle.cb_fit.specs.StandsAlone.{are_constants}
use Rattle.cb_fit.proofs.standing_alone.all_are_constants.Given as goal

abbrev pub invariant-loop-checks : goal.invariant-loop-checks
invariant-loop-checks l =
    list_all are_constants (map (λ cs. map check_of cs.items) (drop l.checks-index l.alternatives)) ≡ list_all are_constants (map (λ cs. map check_of cs.items) l.alternatives)
