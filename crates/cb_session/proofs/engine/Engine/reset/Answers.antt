use Rattle.std.proofs.Common.{refl, ap, sym}
use Rattle.cb_actions.proofs.ActLaws.{went_as}
use Rattle.cb_knowledge_base.specs.Deffacts.{kept_facts}
use Rattle.cb_session.proofs.WorldLaws.{went_on_world}
use Rattle.cb_session.specs.Actions.{reset_to}
use Rattle.cb_session.specs.Deeds.{on_world}
use Rattle.cb_session.specs.States.{State}
use Rattle.cb_session.proofs.engine.Engine.reset.Goals as goal

pub returns : goal.returns
returns g c =
    let inside = c.self.inside in
    let s : State = record { world = inside.world; deffacts = inside.deffacts; globals = inside.globals; is_faulted = inside.is_faulted } in
    let act = reset_to inside.globals (kept_facts inside.deffacts) in
    let went = went_as g.K.Sink.writes _ _ _ _ _ _ _ refl (ap (λ gs. reset_to gs (kept_facts inside.deffacts) inside.world) (sym c.as_slice.ensures)) c.reset_world.ensures in
    went_as g.K.Sink.writes _ _ _ _ _ _ _ refl (ap (λ (it : State). on_world (reset_to it.globals (kept_facts it.deffacts)) it) (sym c.self.view_is)) (went_on_world g.K.Sink.writes _ _ s _ _ act went)
