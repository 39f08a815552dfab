use Rattle.std.proofs.Common.{◌∙◌, ap, rules}
use Rattle.cb_expr_forms.specs.Scopes.{is_known}
use Rattle.cb_expr_forms.proofs.PlanLaws.{is_slot}
use Rattle.cb_forms.specs.Members.{members}
use Rattle.cb_forms.specs.Trees.{tree_of}
use Rattle.cb_expr_forms.proofs.slot_form.split_slot.Goals as goal

pub returns : goal.returns
returns c =
    is_slot c.args.template.now c.args.given.now (tree_of c.args.form.now) _ (members c.in-Some.forms.now) c.in-Some-find.slot.now c.has.result c.split_values.result
    c.in-Some.ensures (search rules) (c.has.ensures ∙ ap (is_known c.args.given.now) c.name-2.ensures) c.split_values.ensures
