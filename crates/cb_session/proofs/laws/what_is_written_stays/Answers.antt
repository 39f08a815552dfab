use Rattle.cb_session.proofs.SoFarLaws.{so_far-none, so_far-grows, so_far-grows_far}
use Rattle.cb_session.proofs.laws.what_is_written_stays.Goals as goal

pub returns-clause-begun : goal.returns-clause-begun
returns-clause-begun c = so_far-none

pub returns-clause-so_far : goal.returns-clause-so_far
returns-clause-so_far c = λ n p r. let grows = so_far-grows_far n p r in (grows.more, grows.is)

pub returns-clause-whole : goal.returns-clause-whole
returns-clause-whole c = λ n p r. let grows = so_far-grows n p r in (grows.more, grows.is)
