use Rattle.cb_laws.proofs.ItemLaws.{template_defined_so, template_fault, template_only, template_quiet}
use Rattle.cb_laws.proofs.items.a_deftemplate_defines_its_template.Goals as goal

pub returns-clause-defined : goal.returns-clause-defined
returns-clause-defined c = template_defined_so

pub returns-clause-only : goal.returns-clause-only
returns-clause-only c = template_only

pub returns-clause-quiet : goal.returns-clause-quiet
returns-clause-quiet c = template_quiet

pub returns-clause-fault : goal.returns-clause-fault
returns-clause-fault c = template_fault
