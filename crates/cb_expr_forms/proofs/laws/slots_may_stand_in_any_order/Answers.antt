use Rattle.cb_expr_forms.proofs.SlotLaws.{slots_in_any_order}
use Rattle.cb_expr_forms.proofs.laws.slots_may_stand_in_any_order.Goals as goal

pub returns : goal.returns
returns c = λ s relation slots forms others is permuted none. slots_in_any_order s relation slots forms others is permuted none
