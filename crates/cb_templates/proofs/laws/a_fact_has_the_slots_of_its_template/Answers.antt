use Rattle.cb_templates.proofs.SlotLaws.{fact_has_slots}
use Rattle.cb_templates.proofs.laws.a_fact_has_the_slots_of_its_template.Goals as goal

pub returns : goal.returns
returns c = fact_has_slots
