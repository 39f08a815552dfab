use Rattle.std.proofs.Common.{◌≡◌, drop, map}
use Rattle.cb_constraints.specs.Constraints.{check_of}
use Rattle.cb_constraints.specs.Internal.{are_of_constants}
use Rattle.cb_constraints.proofs.holding.are_of_constants.Given as goal

abbrev pub invariant-loop-alternative : goal.invariant-loop-alternative
invariant-loop-alternative l =
    are_of_constants (map (λ cs. map check_of cs.items) (drop l.alternative-index l.alternatives))
    ≡ are_of_constants (map (λ cs. map check_of cs.items) l.alternatives)
