use Rattle.cb_alpha.proofs.Turned.{shapeless_goes}
use Rattle.cb_alpha.proofs.laws.a_fact_that_is_not_selected_goes.Goals as goal

pub returns : goal.returns
returns c = λ p m ix f fs over. shapeless_goes p m fs over ix f
