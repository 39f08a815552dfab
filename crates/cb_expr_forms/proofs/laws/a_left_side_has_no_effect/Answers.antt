use Rattle.cb_expr_forms.proofs.SideLaws.{call_refused}
use Rattle.cb_expr_forms.proofs.laws.a_left_side_has_no_effect.Goals as goal

pub returns : goal.returns
returns c = λ s name a args left is. call_refused s name a args left is
