use Rattle.cb_laws.proofs.ActLaws.{fields_given, slots_given}
use Rattle.cb_laws.proofs.acting.each_value_goes_where_it_is_written.Goals as goal

pub returns-clause-fields : goal.returns-clause-fields
returns-clause-fields c = fields_given

pub returns-clause-slots : goal.returns-clause-slots
returns-clause-slots c = slots_given
