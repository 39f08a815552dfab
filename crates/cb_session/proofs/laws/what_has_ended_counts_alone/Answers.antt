use Rattle.cb_session.proofs.SoFarLaws.{so_far-ended}
use Rattle.cb_session.proofs.laws.what_has_ended_counts_alone.Goals as goal

pub returns-clause-so_far : goal.returns-clause-so_far
returns-clause-so_far c = λ n p r status ended. (so_far-ended n p r status ended).0

pub returns-clause-whole : goal.returns-clause-whole
returns-clause-whole c = λ n p r status ended. (so_far-ended n p r status ended).1
