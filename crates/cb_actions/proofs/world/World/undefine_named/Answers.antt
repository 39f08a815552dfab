use Rattle.std.proofs.Common.{◌≡◌, Err, None, Ok, Option, refl, rules}
use Rattle.cb_actions.specs.Acts.{Act, give}
use Rattle.cb_actions.proofs.ActLaws.{went_then, went_off, went_quietly}
use Rattle.cb_actions.specs.Worlds.{World}
use Rattle.cb_actions.proofs.WentLaws.{went_fine, went_result}
use Rattle.cb_facts.specs.declared.value.Value.{Value}
use Rattle.cb_actions.proofs.world.World.undefine_named.Goals as goal

pub returns-in_err-drop_known : goal.returns-in_err-drop_known
returns-in_err-drop_known g c =
    let r : c.from_residual.result ≡ Err c.in_err-drop_known.field-0.0 = search rules in
    let next : Unit {0} → Act World (Option Value) = λ _. give None in
    went_result g.K.Sink.writes r (went_off g.K.Sink.writes _ _ _ _ _ next c.in_err-drop_known.ensures)

pub returns : goal.returns
returns g c =
    let next : Unit {0} → Act World (Option Value) = λ _. give None in
    went_then g.K.Sink.writes _ _ _ _ _ _ _ _ next c.in_ok-drop_known.ensures (went_quietly g.K.Sink.writes _ _ (Ok None) _ (went_fine g.K.Sink.writes _ _ _ _ _ c.in_ok-drop_known.ensures) refl)
