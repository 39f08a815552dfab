use Rattle.std.proofs.Common.{◌≡◌, drop, map}
use Rattle.std.specs.List.{list_all}
use Rattle.cb_constraints.specs.Constraints.{check_of}
use Rattle.cb_constraints.specs.Holding.{check_holds, tested_value}
use Rattle.cb_constraints.specs.Internal.Known.{before_check}
use Rattle.cb_constraints.proofs.holding.all_hold.Given as goal

abbrev pub invariant-loop-check : goal.invariant-loop-check
invariant-loop-check g l =
    list_all (check_holds (tested_value l.tested) (before_check g.L.Lookup.bindings l.known l.at)) (map check_of (drop l.check-index l.checks))
    ≡ list_all (check_holds (tested_value l.tested) (before_check g.L.Lookup.bindings l.known l.at)) (map check_of l.checks)
