use Rattle.std.proofs.Common.{ap, option_map, refl, sym}
use Rattle.cb_actions.specs.Commands.{exited}
use Rattle.cb_actions.proofs.ActLaws.{went_as}
use Rattle.cb_exprs.specs.Terms.{term_of}
use Rattle.cb_session.proofs.WorldLaws.{lent_term, went_inside}
use Rattle.cb_session.specs.Deeds.{on_world}
use Rattle.cb_session.proofs.engine.Engine.exit.Goals as goal

pub returns : goal.returns
returns g c =
    let lent = lent_term c.as_ref.result c.args.status c.as_ref.ensures.value in
    went_as g.K.Sink.writes _ _ _ _ _ _ _ refl (ap (λ it. on_world (exited it) c.args.self.now) (sym lent))
    (went_inside g.K.Sink.writes _ _ _ _ _ _ (exited (option_map (λ e. term_of e.now) c.as_ref.result)) c.self.view_is c.exit.ensures)
