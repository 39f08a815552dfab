use Rattle.cb_actions.specs.Actions.{carried}
use Rattle.cb_exprs.specs.Terms.{term_of}
use Rattle.cb_session.proofs.WorldLaws.{went_inside}
use Rattle.cb_session.proofs.engine.Engine.evaluate.Goals as goal

pub returns : goal.returns
returns g c = went_inside g.K.Sink.writes _ _ _ _ _ _ (carried (term_of c.args.expr.now)) c.self.view_is c.carry_out.ensures.went
