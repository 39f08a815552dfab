use Rattle.std.proofs.Common.{◌∙◌, Some, ap, sym}
use Rattle.cb_expr_forms.proofs.Calls.{by_no_plan}
use Rattle.cb_forms.specs.Members.{members}
use Rattle.cb_expr_forms.proofs.call_form.split_other.Goals as goal

pub returns-in-None : goal.returns-in-None
returns-in-None c =
    λ side may s is. by_no_plan side c.args.action (members c.args.args.now) c.requires.assert c.requires.modify may c.in-None.ensures s is ∙ ap Some (sym c.arguments_fault.ensures)
