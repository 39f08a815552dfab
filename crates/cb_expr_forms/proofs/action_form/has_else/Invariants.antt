use Rattle.std.proofs.Common.{◌≡◌, drop}
use Rattle.std.specs.List.{list_any}
use Rattle.cb_expr_forms.specs.Actions.{is_else}
use Rattle.cb_expr_forms.specs.ExprForms.{exprs_of}
use Rattle.cb_forms.specs.Members.{members}
use Rattle.cb_templates.specs.Templates.{Templates}
use Rattle.cb_expr_forms.proofs.action_form.has_else.Given as goal

abbrev pub invariant-loop-form : goal.invariant-loop-form
invariant-loop-form l = (t : Templates) → list_any is_else (exprs_of t (members (drop l.form-index l.actions))) ≡ list_any is_else (exprs_of t (members l.actions))
