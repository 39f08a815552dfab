use Rattle.cb_laws.proofs.ItemLaws.{fault_shown, limit_shown, rest_stays, value_shown, world_is}
use Rattle.cb_laws.proofs.items.an_expression_is_carried_out.Goals as goal

pub returns-clause-world : goal.returns-clause-world
returns-clause-world c = world_is

pub returns-clause-only : goal.returns-clause-only
returns-clause-only c = rest_stays

pub returns-clause-value : goal.returns-clause-value
returns-clause-value c = value_shown

pub returns-clause-fault : goal.returns-clause-fault
returns-clause-fault c = fault_shown

pub returns-clause-limit : goal.returns-clause-limit
returns-clause-limit c = limit_shown
