use Rattle.std.proofs.Common.{◌≡◌, drop, map}
use Rattle.cb_constraints.specs.Constraints.{check_of}
use Rattle.cb_constraints.specs.Holding.{one_holds, tested_value}
use Rattle.cb_constraints.specs.Internal.Known.{before_check}
use Rattle.cb_constraints.proofs.holding.one_holds.Given as goal

abbrev pub invariant-loop-alternative : goal.invariant-loop-alternative
invariant-loop-alternative g l =
    one_holds (map (λ cs. map check_of cs.items) (drop l.alternative-index l.alternatives)) (tested_value l.tested) (before_check g.L.Lookup.bindings l.known l.at)
    ≡ one_holds (map (λ cs. map check_of cs.items) l.alternatives) (tested_value l.tested) (before_check g.L.Lookup.bindings l.known l.at)
