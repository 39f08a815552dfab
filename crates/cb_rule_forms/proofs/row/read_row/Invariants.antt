use Rattle.std.proofs.Common.{◌≡◌, ◌++◌, length, map}
use Rattle.cb_constraints.specs.Constraints.{constraint_of}
use Rattle.cb_facts.specs.FaultLists.{first_of}
use Rattle.cb_forms.specs.Members.{members}
use Rattle.cb_rule_forms.specs.Members.{members_in}
use Rattle.cb_rule_forms.specs.PatternFaults.{constraints_faults}
use Rattle.cb_rule_forms.specs.Rows.{row_in}
use Rattle.cb_rule_forms.proofs.row.read_row.Given as goal

abbrev pub invariant-loop-constraints : goal.invariant-loop-constraints
invariant-loop-constraints l =
    (first_of (constraints_faults l.scope (members l.rest)) ≡ first_of (constraints_faults l.scope (members l.forms)))
    × (map constraint_of l.constraints.items ++ row_in l.scope.templates (members_in (members l.rest)) ≡ row_in l.scope.templates (members_in (members l.forms)))

abbrev pub decreases-loop-constraints : goal.decreases-loop-constraints
decreases-loop-constraints l = length l.rest
