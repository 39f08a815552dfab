use Rattle.cb_alpha.proofs.Turned.{comes}
use Rattle.cb_alpha.proofs.laws.a_fact_that_comes_turns_an_alpha_memory.Goals as goal

pub returns : goal.returns
returns c = λ p m m' number ix f fs over is free shape. comes p m fs over m' number ix f is free shape
