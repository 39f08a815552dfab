use Rattle.cb_laws.proofs.ItemLaws.{multi_given, single_given}
use Rattle.cb_laws.proofs.items.a_slot_is_given_what_is_written.Goals as goal

pub returns-clause-single : goal.returns-clause-single
returns-clause-single c = single_given

pub returns-clause-multi : goal.returns-clause-multi
returns-clause-multi c = multi_given
