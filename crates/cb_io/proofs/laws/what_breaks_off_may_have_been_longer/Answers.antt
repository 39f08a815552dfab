use Rattle.cb_io.proofs.PutLaws.{puts_refused, puts_nothing, puts_less, puts_failed}
use Rattle.cb_io.proofs.laws.what_breaks_off_may_have_been_longer.Goals as goal

pub returns-clause-all : goal.returns-clause-all
returns-clause-all g c = puts_refused g.K.Sink.writes

pub returns-clause-none : goal.returns-clause-none
returns-clause-none g c = puts_nothing g.K.Sink.writes

pub returns-clause-refused : goal.returns-clause-refused
returns-clause-refused g c = puts_less g.K.Sink.writes

pub returns-clause-failed : goal.returns-clause-failed
returns-clause-failed g c = puts_failed g.K.Sink.writes
