use Rattle.std.proofs.Common.{◌≡◌, ◌≤◌, length}
use Rattle.cb_forms.specs.Members.{members}
use Rattle.cb_rule_forms.specs.Members.{members_in}
use Rattle.cb_rule_forms.specs.Rows.{put_before, written_constraints}
use Rattle.cb_rule_forms.specs.Internal.RowReading.{alternatives_of, checks_faults, checks_of}
use Rattle.cb_rule_forms.proofs.row.read_constraint.Given as goal

abbrev pub invariant-loop-is_negated : goal.invariant-loop-is_negated
invariant-loop-is_negated l =
    (checks_faults l.scope (members_in (members l.rest)) ≡ checks_faults l.scope (members_in (members l.forms)))
    × (put_before l.takes_segment (alternatives_of l.alternatives) (checks_of l.checks) (written_constraints l.scope.templates (members_in (members l.rest))) ≡ written_constraints l.scope.templates (members_in (members l.forms)))
    × (length l.rest ≤ length l.forms)

abbrev pub decreases-loop-is_negated : goal.decreases-loop-is_negated
decreases-loop-is_negated l = length l.rest
