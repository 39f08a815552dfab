use Rattle.cb_io.proofs.PutLaws.{puts_fine}
use Rattle.cb_session.proofs.session.flush.Goals as goal

pub returns-in-Ok-clause-ready : goal.returns-in-Ok-clause-ready
returns-in-Ok-clause-ready g c = (c.in-Ok.ensures.ok_pending, puts_fine g.K.Sink.writes _ _ _ (c.in-Ok.ensures.puts c.requires))
