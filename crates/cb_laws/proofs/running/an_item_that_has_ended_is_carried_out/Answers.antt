use Rattle.cb_laws.proofs.RunningLaws.{last_carried, next_carried, none_carried}
use Rattle.cb_laws.proofs.running.an_item_that_has_ended_is_carried_out.Goals as goal

pub returns-clause-next : goal.returns-clause-next
returns-clause-next c = next_carried

pub returns-clause-last : goal.returns-clause-last
returns-clause-last c = last_carried

pub returns-clause-none : goal.returns-clause-none
returns-clause-none c = none_carried
