use Rattle.std.proofs.Common.{◌≡◌, ◌∙◌, Some, ap, false, rules, sym}
use Rattle.cb_expr_forms.specs.Scopes.{is_known}
use Rattle.cb_expr_forms.proofs.PlanLaws.{is_change}
use Rattle.cb_forms.specs.Members.{call_of, members}
use Rattle.cb_forms.specs.Trees.{tree_of}
use Rattle.cb_expr_forms.proofs.slot_changes.split_change.Goals as goal

pub returns : goal.returns
returns c =
    let called : call_of (tree_of c.args.form.now) ≡ Some (c.in_ok-name.name, members c.in-Some.forms.now) = search rules in
    let new : is_known c.args.given.now c.in_ok-name.name ≡ false = search rules in
    is_change c.args.given.now (tree_of c.args.form.now) c.in_ok-name.name (members c.in-Some.forms.now) called new
