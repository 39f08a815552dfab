use Rattle.cb_alpha.proofs.Turned.{absent_goes}
use Rattle.cb_alpha.proofs.laws.a_fact_that_is_absent_goes.Goals as goal

pub returns : goal.returns
returns c = λ p m ix fs over. absent_goes p m fs over ix
