use Rattle.std.proofs.Common.{◌≡◌, drop, map}
use Rattle.std.specs.List.{list_any}
use Rattle.cb_constraints.specs.Constraints.{check_of}
use Rattle.cb_constraints.specs.Holding.{constants_hold, tested_value}
use Rattle.cb_constraints.proofs.holding.one_may_hold.Given as goal

abbrev pub invariant-loop-alternative : goal.invariant-loop-alternative
invariant-loop-alternative l =
    list_any (constants_hold (tested_value l.tested)) (map (λ cs. map check_of cs.items) (drop l.alternative-index l.alternatives))
    ≡ list_any (constants_hold (tested_value l.tested)) (map (λ cs. map check_of cs.items) l.alternatives)
