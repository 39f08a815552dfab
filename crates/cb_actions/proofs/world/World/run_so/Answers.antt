use Rattle.std.proofs.Common.{◌≡◌, Err, None, Ok, Option, refl, rules}
use Rattle.cb_actions.specs.Acts.{Act, give}
use Rattle.cb_actions.proofs.ActLaws.{went_then, went_off, went_quietly}
use Rattle.cb_actions.specs.Worlds.{World}
use Rattle.cb_actions.proofs.WentLaws.{went_fine, went_result}
use Rattle.cb_facts.specs.declared.value.Value.{Value}
use Rattle.cb_actions.proofs.world.World.run_so.Goals as goal

pub returns-in_err-run : goal.returns-in_err-run
returns-in_err-run g c =
    let r : c.from_residual.result ≡ Err c.in_err-run.field-0.0 = search rules in
    let next : Unit {0} → Act World (Option Value) = λ _. give None in
    went_result g.K.Sink.writes r (went_off g.K.Sink.writes _ _ _ _ _ next c.in_err-run.ensures)

pub returns : goal.returns
returns g c =
    let next : Unit {0} → Act World (Option Value) = λ _. give None in
    went_then g.K.Sink.writes _ _ _ _ _ _ _ _ next c.in_ok-run.ensures (went_quietly g.K.Sink.writes _ _ (Ok None) _ (went_fine g.K.Sink.writes _ _ _ _ _ c.in_ok-run.ensures) refl)
