use Rattle.std.proofs.Common.{◌≡◌, Err, Ok, ℕ, Option, rules}
use Rattle.cb_actions.specs.Acts.{Act, ◌>>=◌}
use Rattle.cb_actions.specs.Commands.{asked_by, without_value}
use Rattle.cb_actions.proofs.ActLaws.{went_then, went_off, went_quietly}
use Rattle.cb_actions.specs.Runs.{run}
use Rattle.cb_actions.specs.Worlds.{World}
use Rattle.cb_actions.proofs.WentLaws.{went_fine, went_result}
use Rattle.cb_facts.specs.declared.value.Value.{Value}
use Rattle.cb_actions.proofs.world.World.run_counted.Goals as goal

abbrev runs : Option ℕ → Act World (Option Value)
runs asked = without_value (run asked)

abbrev counted : Value → Act World (Option Value)
counted v = asked_by v >>= runs

pub returns-in_err-value : goal.returns-in_err-value
returns-in_err-value g c =
    let r : c.from_residual.result ≡ Err c.in_err-value.field-0.0 = search rules in
    went_result g.K.Sink.writes r (went_off g.K.Sink.writes _ _ _ _ _ counted c.in_err-value.ensures.went)

pub returns-in_err-asked : goal.returns-in_err-asked
returns-in_err-asked g c =
    let r : c.from_residual-in_err-asked.result ≡ Err c.in_err-asked.field-0.0 = search rules in
    let fine = went_fine g.K.Sink.writes _ _ _ _ _ c.in_ok-value.ensures.went in
    went_result g.K.Sink.writes r (went_then g.K.Sink.writes _ _ _ _ _ _ _ _ counted c.in_ok-value.ensures.went
    (went_off g.K.Sink.writes _ _ _ _ _ runs (went_quietly g.K.Sink.writes _ _ (Err c.in_err-asked.field-0.0) _ fine (c.in_err-asked.ensures c.carry_value.new.self))))

pub returns : goal.returns
returns g c =
    let fine = went_fine g.K.Sink.writes _ _ _ _ _ c.in_ok-value.ensures.went in
    went_then g.K.Sink.writes _ _ _ _ _ _ _ _ counted c.in_ok-value.ensures.went
    (went_then g.K.Sink.writes _ _ _ _ _ _ _ _ runs (went_quietly g.K.Sink.writes _ _ (Ok c.in_ok-asked.asked) _ fine (c.in_ok-asked.ensures c.carry_value.new.self)) c.run_so.ensures)
