use Rattle.std.proofs.Common.{◌≡◌, Result, Err, Vec, Global, map, rules, subst, sym}
use Rattle.cb_constraints.specs.Constraints.{constraint_of}
use Rattle.cb_constraints.specs.declared.constraint.Constraint.{Constraint}
use Rattle.cb_constraints.specs.declared.row.Row.{Row}
use Rattle.cb_facts.specs.FaultLists.{ReadsAs}
use Rattle.cb_facts.specs.declared.refused.Refused.{Refused}
use Rattle.cb_forms.specs.Members.{members}
use Rattle.cb_rule_forms.specs.Members.{members_in}
use Rattle.cb_rule_forms.specs.PatternFaults.{constraints_faults, slot_row_faults}
use Rattle.cb_rule_forms.specs.Rows.{row_in}
use Rattle.cb_rule_forms.proofs.pattern.read_filling.Goals as goal
use Rattle.cb_facts.proofs.FirstFaults.{fails, first_append}

pub returns-in_err-constraints : goal.returns-in_err-constraints
returns-in_err-constraints c =
    let s = c.args.scope.now in
    let forms = members c.args.forms.now in
    let whole = slot_row_faults s c.args.is_multi forms in
    let row = row_in s.templates (members_in forms) in
    let r : c.from_residual.result ≡ Err c.in_err-constraints.field-0.0 = search rules in
    subst (λ (it : Result Row Refused). ReadsAs {T = Row} {V = Row} (λ one. one) it whole row) (sym r)
    (fails (λ (cs : Vec Constraint Global). map constraint_of cs.items) row (λ (one : Row). one) row c.in_err-constraints.field-0.0 (constraints_faults s forms) whole
    (λ f h. first_append (constraints_faults s forms) _ f h) c.in_err-constraints.ensures)
