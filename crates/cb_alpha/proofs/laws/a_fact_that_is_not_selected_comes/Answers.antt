use Rattle.cb_alpha.proofs.Turned.{shapeless_comes}
use Rattle.cb_alpha.proofs.laws.a_fact_that_is_not_selected_comes.Goals as goal

pub returns : goal.returns
returns c = λ p m ix f fs over. shapeless_comes p m fs over ix f
