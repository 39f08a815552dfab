use Rattle.cb_templates.proofs.TemplateFaultLaws.{said_differ}
use Rattle.cb_templates.proofs.laws.the_slots_of_a_template_differ.Goals as goal

pub returns : goal.returns
returns c = said_differ
