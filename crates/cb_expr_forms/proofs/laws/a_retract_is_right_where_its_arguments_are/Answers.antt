use Rattle.cb_expr_forms.proofs.RightLaws.{retract_right}
use Rattle.cb_expr_forms.proofs.laws.a_retract_is_right_where_its_arguments_are.Goals as goal

pub returns : goal.returns
returns c = retract_right
