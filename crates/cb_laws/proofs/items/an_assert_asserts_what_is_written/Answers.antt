use Rattle.cb_laws.proofs.ItemLaws.{asserts, gives_slots, has_fields}
use Rattle.cb_laws.proofs.items.an_assert_asserts_what_is_written.Goals as goal

pub returns-clause-facts : goal.returns-clause-facts
returns-clause-facts c = asserts

pub returns-clause-fields : goal.returns-clause-fields
returns-clause-fields c = has_fields

pub returns-clause-slots : goal.returns-clause-slots
returns-clause-slots c = gives_slots
