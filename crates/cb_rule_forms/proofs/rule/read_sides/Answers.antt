use Rattle.std.proofs.Common.{Global, List, Vec, map, false, refl, rules}
use Rattle.cb_expr_forms.specs.ExprForms.{exprs_of}
use Rattle.cb_exprs.specs.Terms.{Term, term_of}
use Rattle.cb_exprs.specs.declared.expr.Expr.{Expr}
use Rattle.cb_forms.specs.Members.{members}
use Rattle.cb_rule_forms.specs.Branches.{branches_in}
use Rattle.cb_rule_forms.specs.Internal.{branches_read}
use Rattle.cb_rule_forms.specs.Rules.{branches_faults, left_faults, left_scope}
use Rattle.cb_rule_forms.specs.WrittenElements.{written_in}
use Rattle.cb_rule_forms.specs.declared.element.ElementForm.{ElementForm}
use Rattle.cb_rules.specs.Elements.{Elements}
use Rattle.cb_rule_forms.proofs.WayLaws.{fault_passes}
use Rattle.cb_rule_forms.proofs.rule.read_sides.Goals as goal

pub returns-in_err-branches : goal.returns-in_err-branches
returns-in_err-branches c =
    let templates = c.args.relations.now in
    let env = c.args.env.now in
    let ws = written_in false (members c.args.left.now) in
    let branches = branches_in templates ws in
    let sides : List Elements × List Term = (branches, exprs_of templates (members c.args.right.now)) in
    let see : (Vec (Vec ElementForm Global) Global × Vec Expr Global) → List Elements × List Term = λ read. (branches_read read.0.items, map term_of read.1.items) in
    fault_passes (λ (read : Vec (Vec ElementForm Global) Global). branches_read read.items) see c.in_err-branches.field-0.0 c.from_residual.result
    (left_faults (left_scope templates env) ws) (branches_faults templates env branches (members c.args.right.now)) _ branches sides refl (search rules) c.in_err-branches.ensures
