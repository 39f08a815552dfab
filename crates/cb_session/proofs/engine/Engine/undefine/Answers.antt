use Rattle.std.proofs.Common.{ap, option_map, refl, sym}
use Rattle.cb_actions.specs.Commands.{undefined}
use Rattle.cb_actions.proofs.ActLaws.{went_as}
use Rattle.cb_session.proofs.WorldLaws.{lent_name, went_inside}
use Rattle.cb_session.specs.Deeds.{on_world}
use Rattle.cb_session.proofs.engine.Engine.undefine.Goals as goal

pub returns : goal.returns
returns g c =
    let lent = lent_name c.as_ref.result c.args.name c.as_ref.ensures.value in
    went_as g.K.Sink.writes _ _ _ _ _ _ _ refl (ap (λ it. on_world (undefined it) c.args.self.now) (sym lent))
    (went_inside g.K.Sink.writes _ _ _ _ _ _ (undefined (option_map (λ n. n.now) c.as_ref.result)) c.self.view_is c.undefine.ensures)
