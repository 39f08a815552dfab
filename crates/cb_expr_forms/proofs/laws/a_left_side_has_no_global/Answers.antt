use Rattle.cb_expr_forms.proofs.SideLaws.{global_refused}
use Rattle.cb_expr_forms.proofs.laws.a_left_side_has_no_global.Goals as goal

pub returns : goal.returns
returns c = λ s name left. global_refused s name left
