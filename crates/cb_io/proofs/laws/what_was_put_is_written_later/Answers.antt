use Rattle.cb_io.proofs.PutLaws.{puts_part_then, puts_part_failed}
use Rattle.cb_io.proofs.laws.what_was_put_is_written_later.Goals as goal

pub returns-clause-written : goal.returns-clause-written
returns-clause-written g c = puts_part_then g.K.Sink.writes

pub returns-clause-failed : goal.returns-clause-failed
returns-clause-failed g c = puts_part_failed g.K.Sink.writes
