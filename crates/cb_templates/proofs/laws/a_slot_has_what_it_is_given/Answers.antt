use Rattle.cb_templates.proofs.SlotValueLaws as laws
use Rattle.cb_templates.proofs.laws.a_slot_has_what_it_is_given.Goals as goal

pub returns-clause-multislot : goal.returns-clause-multislot
returns-clause-multislot c = laws.multi_slot

pub returns-clause-slot : goal.returns-clause-slot
returns-clause-slot c = laws.one_slot

pub returns-clause-default : goal.returns-clause-default
returns-clause-default c = laws.left_default

pub returns-clause-relation : goal.returns-clause-relation
returns-clause-relation c = laws.relation_is
