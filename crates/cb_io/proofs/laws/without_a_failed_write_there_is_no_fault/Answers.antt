use Rattle.cb_io.proofs.PutLaws.{puts_fine, puts_fine_part}
use Rattle.cb_io.proofs.laws.without_a_failed_write_there_is_no_fault.Goals as goal

pub returns-clause-all : goal.returns-clause-all
returns-clause-all g c = puts_fine g.K.Sink.writes

pub returns-clause-part : goal.returns-clause-part
returns-clause-part g c = puts_fine_part g.K.Sink.writes
