use Rattle.cb_expr_forms.proofs.SlotLaws.{ordered_right}
use Rattle.cb_expr_forms.proofs.laws.an_ordered_fact_is_right_where_its_fields_are.Goals as goal

pub returns : goal.returns
returns c = λ s relation fields none. ordered_right s relation fields none
