use Rattle.std.proofs.Common.{◌≡◌, Option, None, Err, Ok, false, refl, rules, true}
use Rattle.std.specs.List.{list_all}
use Rattle.cb_actions.specs.Acts.{Act, give}
use Rattle.cb_actions.proofs.ActLaws.{went_then, went_off, went_quietly, went_as}
use Rattle.cb_actions.specs.Worlds.{World}
use Rattle.cb_actions.specs.declared.act.Break.TheVariants as break
use Rattle.cb_actions.specs.declared.act.EarlyEnd.TheVariants as ended
use Rattle.cb_actions.proofs.ChangeLaws.{are_retracted, not_retracted}
use Rattle.cb_actions.proofs.WentLaws.{went_fine}
use Rattle.cb_facts.specs.declared.value.Value.{Value}
use Rattle.cb_forms.specs.declared.fault.Fault.TheVariants.{WrongType}
use Rattle.cb_actions.specs.Effects.{is_retractable}
use Rattle.cb_actions.proofs.world.World.retract.Goals as goal

pub returns-then-not-are_retractable-clause-went : goal.returns-then-not-are_retractable-clause-went
returns-then-not-are_retractable-clause-went g c =
    let e : list_all is_retractable c.args.values.now ≡ false = search rules in
    went_quietly g.K.Sink.writes _ _ (Err (break.Ended (ended.Fault WrongType))) _ c.requires (not_retracted c.args.values.now c.args.self.now e)

pub returns-in_err-retract_each-clause-went : goal.returns-in_err-retract_each-clause-went
returns-in_err-retract_each-clause-went g c =
    let e : list_all is_retractable c.args.values.now ≡ true = search rules in
    let r : c.from_residual.result ≡ Err c.in_err-retract_each.field-0.0 = search rules in
    let next : Unit {0} → Act World (Option Value) = λ _. give None in
    went_as g.K.Sink.writes _ _ _ _ _ _ _ r (are_retracted c.args.values.now c.args.self.now e) (went_off g.K.Sink.writes _ _ _ _ _ next c.in_err-retract_each.ensures)

pub returns-clause-went : goal.returns-clause-went
returns-clause-went g c =
    let e : list_all is_retractable c.args.values.now ≡ true = search rules in
    let next : Unit {0} → Act World (Option Value) = λ _. give None in
    went_as g.K.Sink.writes _ _ _ _ _ _ _ refl (are_retracted c.args.values.now c.args.self.now e) (went_then g.K.Sink.writes _ _ _ _ _ _ _ _ next c.in_ok-retract_each.ensures
    (went_quietly g.K.Sink.writes _ _ (Ok None) _ (went_fine g.K.Sink.writes _ _ _ _ _ c.in_ok-retract_each.ensures) refl))

pub returns-clause-fine : goal.returns-clause-fine
returns-clause-fine g c = went_fine g.K.Sink.writes _ _ _ _ _ c.in_ok-retract_each.ensures
