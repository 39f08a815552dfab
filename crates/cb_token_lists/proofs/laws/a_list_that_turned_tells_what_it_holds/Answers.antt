use Rattle.cb_token_lists.proofs.Told.{come_told_once, gone_told_once, held, told}
use Rattle.cb_token_lists.proofs.laws.a_list_that_turned_tells_what_it_holds.Goals as goal

pub returns-clause-holds : goal.returns-clause-holds
returns-clause-holds c = held

pub returns-clause-moves : goal.returns-clause-moves
returns-clause-moves c = told

pub returns-clause-gone_once : goal.returns-clause-gone_once
returns-clause-gone_once c = gone_told_once

pub returns-clause-come_once : goal.returns-clause-come_once
returns-clause-come_once c = come_told_once
