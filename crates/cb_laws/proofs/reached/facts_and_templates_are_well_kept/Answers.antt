use Rattle.cb_laws.proofs.ScriptLaws.{item_well, script_well, so_far_well}
use Rattle.cb_laws.proofs.reached.facts_and_templates_are_well_kept.Goals as goal

pub returns-clause-item : goal.returns-clause-item
returns-clause-item c = item_well

pub returns-clause-so_far : goal.returns-clause-so_far
returns-clause-so_far c = so_far_well

pub returns-clause-whole : goal.returns-clause-whole
returns-clause-whole c = script_well
