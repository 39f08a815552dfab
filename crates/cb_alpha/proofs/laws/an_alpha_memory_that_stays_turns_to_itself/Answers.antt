use Rattle.cb_alpha.proofs.Turned.{stays}
use Rattle.cb_alpha.proofs.laws.an_alpha_memory_that_stays_turns_to_itself.Goals as goal

pub returns : goal.returns
returns c = λ p m fs over. stays p m fs over
