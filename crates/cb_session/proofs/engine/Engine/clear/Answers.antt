use Rattle.std.proofs.Common.{◌≡◌, Err, None, Ok, Option, refl, rules}
use Rattle.cb_actions.specs.Acts.{Act}
use Rattle.cb_actions.specs.Runs.{cleared_world}
use Rattle.cb_actions.proofs.ActLaws.{went_as, went_off, went_quietly, went_then}
use Rattle.cb_facts.specs.declared.value.Value.{Value}
use Rattle.cb_io.proofs.PutLaws.{puts_fine}
use Rattle.cb_session.proofs.WorldLaws.{definitions_go, went_inside}
use Rattle.cb_session.specs.Deeds.{keep, no_definitions, on_world}
use Rattle.cb_session.specs.States.{State}
use Rattle.cb_session.proofs.engine.Engine.clear.Goals as goal

abbrev next : Unit {0} → Act State (Option Value)
next _ = keep (λ _. no_definitions)

pub returns-in_err-clear : goal.returns-in_err-clear
returns-in_err-clear g c =
    let r : c.from_residual.result ≡ Err c.in_err-clear.field-0.0 = search rules in
    let first = went_inside g.K.Sink.writes _ _ _ _ _ _ cleared_world c.self.view_is c.in_err-clear.ensures in
    went_as g.K.Sink.writes _ _ _ _ _ _ _ r refl (went_off g.K.Sink.writes _ _ _ c.in_err-clear.field-0.0 (on_world cleared_world c.args.self.now) next first)

pub returns : goal.returns
returns g c =
    let first = went_inside g.K.Sink.writes _ _ _ _ _ _ cleared_world c.self.view_is c.in_ok-clear.ensures in
    let fine = puts_fine g.K.Sink.writes _ _ _ c.in_ok-clear.ensures.puts in
    let s : State = record { world = c.clear.new.self; deffacts = c.self.inside.deffacts; globals = c.self.inside.globals; is_faulted = c.self.inside.is_faulted } in
    let rest = went_quietly g.K.Sink.writes _ _ (Ok None) _ fine (definitions_go s _ _ c.new.ensures c.new-2.ensures) in
    went_then g.K.Sink.writes _ _ _ _ _ _ _ (on_world cleared_world c.args.self.now) next first rest
