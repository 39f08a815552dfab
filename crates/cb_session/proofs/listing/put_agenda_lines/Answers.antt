use Rattle.std.proofs.Common.{◌≡◌, Err, ap, refl, rules, sym}
use Rattle.cb_io.specs.Output.{stop_extent}
use Rattle.cb_io.specs.declared.stop.Stop.TheVariants as stop
use Rattle.cb_agenda.specs.Agendas.{agenda_list}
use Rattle.cb_io.proofs.PutLaws.{puts_as, puts_nothing}
use Rattle.cb_session.specs.Listings.{agenda_lines}
use Rattle.cb_session.proofs.listing.put_agenda_lines.Goals as goal

pub returns-in_err-activations : goal.returns-in_err-activations
returns-in_err-activations g c =
    let r : c.from_residual.result ≡ Err stop.NoMemory = search rules in
    puts_as g.K.Sink.writes _ _ _ _ _ _ (ap stop_extent r) refl (puts_nothing g.K.Sink.writes _ (agenda_lines c.args.rules.now (agenda_list c.args.agenda.now.agenda)) c.requires)

pub returns : goal.returns
returns g c =
    let all : c.as_slice.result.now ≡ agenda_list c.args.agenda.now.agenda = search rules in
    puts_as g.K.Sink.writes _ _ _ _ _ _ refl (ap (agenda_lines c.args.rules.now) (sym all)) c.put_activation_lines.ensures
