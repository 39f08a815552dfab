use Rattle.cb_templates.proofs.FieldLaws.{each_value, fields_only, multifield_spliced, no_slots_built, no_fields_built}
use Rattle.cb_templates.proofs.laws.an_ordered_fact_has_what_it_is_given.Goals as goal

pub returns-clause-fields : goal.returns-clause-fields
returns-clause-fields c = fields_only

pub returns-clause-each : goal.returns-clause-each
returns-clause-each c = each_value

pub returns-clause-multifield : goal.returns-clause-multifield
returns-clause-multifield c = multifield_spliced

pub returns-clause-no_slots : goal.returns-clause-no_slots
returns-clause-no_slots c = no_slots_built

pub returns-clause-no_fields : goal.returns-clause-no_fields
returns-clause-no_fields c = no_fields_built
