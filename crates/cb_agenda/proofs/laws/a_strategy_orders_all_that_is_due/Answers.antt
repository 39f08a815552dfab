use Rattle.cb_agenda.proofs.TopLaws.{fires_top}
use Rattle.cb_agenda.proofs.laws.a_strategy_orders_all_that_is_due.Goals as goal

pub returns : goal.returns
returns c = λ a s. fires_top (record a { strategy = s })
