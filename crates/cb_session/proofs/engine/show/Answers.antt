use Rattle.std.proofs.Common.{refl, ap}
use Rattle.cb_io.proofs.PutLaws.{puts_as, puts_none}
use Rattle.cb_session.specs.Actions.{shown_line}
use Rattle.cb_session.proofs.engine.show.Goals as goal

pub returns-in-None : goal.returns-in-None
returns-in-None g c = puts_as g.K.Sink.writes _ _ _ _ _ _ refl (ap shown_line c.in-None.is) (puts_none g.K.Sink.writes _ c.requires)
