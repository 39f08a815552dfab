use Rattle.std.proofs.Common.{rules}
use Rattle.cb_forms.specs.Members.{members}
use Rattle.cb_forms.specs.Trees.{tree_of}
use Rattle.cb_expr_forms.proofs.PlanLaws.{is_fact}
use Rattle.cb_expr_forms.proofs.slot_form.split_fact.Goals as goal

pub returns : goal.returns
returns c = is_fact (tree_of c.args.form.now) c.in-Some.relation.now (members c.in-Some.forms.now) c.in-Some.ensures (search rules)
