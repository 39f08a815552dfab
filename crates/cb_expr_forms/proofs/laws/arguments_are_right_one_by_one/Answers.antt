use Rattle.cb_expr_forms.proofs.RightLaws.{all_right, right_all}
use Rattle.cb_expr_forms.proofs.laws.arguments_are_right_one_by_one.Goals as goal

pub returns : goal.returns
returns c = λ s args. (right_all s args, all_right s args)
