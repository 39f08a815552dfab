use Rattle.cb_expr_forms.proofs.SlotLaws.{first_slot_reported}
use Rattle.cb_expr_forms.proofs.laws.what_follows_a_wrong_slot_does_not_matter.Goals as goal

pub returns : goal.returns
returns c = λ s relation slots before t after f free is right h. first_slot_reported s relation slots before t after f free is right h
