use Rattle.cb_session.proofs.ScriptLaws.{added-grown, end-grown}
use Rattle.cb_session.proofs.laws.what_is_added_stands_after_what_is_written.Goals as goal

pub returns-clause-so_far : goal.returns-clause-so_far
returns-clause-so_far c = added-grown

pub returns-clause-whole : goal.returns-clause-whole
returns-clause-whole c = end-grown
