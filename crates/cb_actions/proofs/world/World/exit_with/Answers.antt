use Rattle.std.proofs.Common.{◌≡◌, Err, Option, rules}
use Rattle.cb_actions.specs.Acts.{Act}
use Rattle.cb_actions.specs.Commands.{exited_with, status_in}
use Rattle.cb_actions.proofs.ActLaws.{went_then, went_off, went_quietly}
use Rattle.cb_actions.specs.Worlds.{World}
use Rattle.cb_actions.proofs.WentLaws.{went_fine, went_result}
use Rattle.cb_facts.specs.declared.value.Value.{Value}
use Rattle.cb_actions.proofs.world.World.exit_with.Goals as goal

abbrev ends : Value → Act World (Option Value)
ends v = exited_with (status_in v)

pub returns-in_err-value : goal.returns-in_err-value
returns-in_err-value g c =
    let r : c.from_residual.result ≡ Err c.in_err-value.field-0.0 = search rules in
    went_result g.K.Sink.writes r (went_off g.K.Sink.writes _ _ _ _ _ ends c.in_err-value.ensures.went)

pub returns : goal.returns
returns g c =
    let fine = went_fine g.K.Sink.writes _ _ _ _ _ c.in_ok-value.ensures.went in
    went_then g.K.Sink.writes _ _ _ _ _ _ _ _ ends c.in_ok-value.ensures.went (went_quietly g.K.Sink.writes _ _ c.end_with.result _ fine (c.end_with.ensures c.carry_value.new.self))
