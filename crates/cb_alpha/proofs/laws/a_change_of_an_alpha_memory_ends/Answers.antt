use Rattle.cb_alpha.proofs.Turned.{ended}
use Rattle.cb_alpha.proofs.laws.a_change_of_an_alpha_memory_ends.Goals as goal

pub returns : goal.returns
returns c = ended
