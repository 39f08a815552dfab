use Rattle.cb_agenda.proofs.TopLaws.{fires_top, top_before_others, top_contained}
use Rattle.cb_agenda.proofs.laws.what_fires_is_the_top.Goals as goal

pub returns-clause-fires : goal.returns-clause-fires
returns-clause-fires c = fires_top

pub returns-clause-due : goal.returns-clause-due
returns-clause-due c = top_contained

pub returns-clause-before_others : goal.returns-clause-before_others
returns-clause-before_others c = top_before_others
