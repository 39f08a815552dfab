use Rattle.std.proofs.Common.{◌≡◌, drop, map}
use Rattle.std.specs.List.{list_any}
use Rattle.cb_constraints.specs.Constraints.{check_of}
use Rattle.cb_constraints.specs.Holding.{is_constant}
use Rattle.cb_constraints.proofs.asking.has_constant.Given as goal

abbrev pub invariant-loop-check : goal.invariant-loop-check
invariant-loop-check l = list_any (λ c. is_constant c.test) (map check_of (drop l.check-index l.checks)) ≡ list_any (λ c. is_constant c.test) (map check_of l.checks)
