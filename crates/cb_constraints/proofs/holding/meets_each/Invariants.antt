use Rattle.std.proofs.Common.{◌≡◌, drop, map, true}
use Rattle.cb_constraints.specs.Constraints.{check_of}
use Rattle.cb_constraints.specs.Holding.{FollowFrom, after_checks, constants_hold, tested_value}
use Rattle.cb_constraints.specs.Internal.Known.{before_check}
use Rattle.cb_constraints.proofs.holding.meets_each.Given as goal

abbrev pub invariant-loop-check : goal.invariant-loop-check
invariant-loop-check g l =
    (l.at ≡ l.check-index)
    × (constants_hold (tested_value l.tested) (map check_of (drop l.check-index l.checks)) ≡ true)
    × FollowFrom (before_check g.L.Lookup.bindings l.known) l.check-index (map check_of (drop l.check-index l.checks)) (tested_value l.tested)
    × (after_checks (map check_of (drop l.check-index l.checks)) (tested_value l.tested) (before_check g.L.Lookup.bindings l.known l.check-index)
    ≡ after_checks (map check_of l.checks) (tested_value l.tested) (before_check g.L.Lookup.bindings l.known 0))
