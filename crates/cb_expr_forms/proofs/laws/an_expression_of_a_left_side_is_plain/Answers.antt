use Rattle.cb_expr_forms.proofs.SideLaws.{is_plain}
use Rattle.cb_expr_forms.proofs.laws.an_expression_of_a_left_side_is_plain.Goals as goal

pub returns : goal.returns
returns c = λ s t left none. is_plain s t left none
