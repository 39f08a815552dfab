use Rattle.cb_expr_forms.proofs.SlotLaws.{fact_slots_right}
use Rattle.cb_expr_forms.proofs.laws.a_fact_is_right_where_its_slots_are.Goals as goal

pub returns : goal.returns
returns c = λ s relation slots forms is. fact_slots_right s relation slots forms is
