use Rattle.cb_alpha.proofs.Turned.{goes}
use Rattle.cb_alpha.proofs.laws.a_fact_that_goes_turns_an_alpha_memory.Goals as goal

pub returns : goal.returns
returns c = λ p m m' number ix fs over is rising. goes p m fs over m' number ix is rising
