use Rattle.cb_io.proofs.PutLaws.{puts_none, puts_then}
use Rattle.cb_io.proofs.laws.calls_put_one_after_another.Goals as goal

pub returns-clause-nothing : goal.returns-clause-nothing
returns-clause-nothing g c = puts_none g.K.Sink.writes

pub returns-clause-two : goal.returns-clause-two
returns-clause-two g c = puts_then g.K.Sink.writes
