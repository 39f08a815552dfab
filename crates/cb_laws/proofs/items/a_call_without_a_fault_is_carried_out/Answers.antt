use Rattle.cb_laws.proofs.ItemLaws.{right_call, wrong_call}
use Rattle.cb_laws.proofs.items.a_call_without_a_fault_is_carried_out.Goals as goal

pub returns-clause-right : goal.returns-clause-right
returns-clause-right c = right_call

pub returns-clause-wrong : goal.returns-clause-wrong
returns-clause-wrong c = wrong_call
