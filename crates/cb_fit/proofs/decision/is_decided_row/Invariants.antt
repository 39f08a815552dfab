use Rattle.std.proofs.Common.{◌≡◌, drop, map}
use Rattle.std.specs.List.{list_all}
use Rattle.cb_constraints.specs.Constraints.{constraint_of}
use Rattle.cb_fit.specs.Internal.Reading.{is_decided_alone}
use Rattle.cb_fit.proofs.decision.is_decided_row.Given as goal

abbrev pub invariant-loop-constraint : goal.invariant-loop-constraint
invariant-loop-constraint l =
    list_all is_decided_alone (map constraint_of (drop l.constraint-index l.constraints)) ≡ list_all is_decided_alone (map constraint_of l.constraints)
