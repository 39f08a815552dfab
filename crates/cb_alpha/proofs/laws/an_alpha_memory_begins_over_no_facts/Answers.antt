use Rattle.cb_alpha.proofs.Turned.{over_nothing}
use Rattle.cb_alpha.proofs.laws.an_alpha_memory_begins_over_no_facts.Goals as goal

pub returns : goal.returns
returns c = over_nothing
