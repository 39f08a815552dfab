use Rattle.std.proofs.Common.{◌≡◌, Err, length, rules}
use Rattle.cb_io.proofs.PutLaws.{puts_fine}
use Rattle.cb_lines.specs.Lines.{agenda_line, total_line}
use Rattle.cb_lines.specs.declared.totals.Noun.TheVariants.{Activation}
use Rattle.cb_session.proofs.ListingLaws.{listed_all, listed_off}
use Rattle.cb_session.proofs.listing.put_activation_lines.Goals as goal

pub returns-in_err-put_activations : goal.returns-in_err-put_activations
returns-in_err-put_activations g c =
    let r : c.from_residual.result ≡ Err c.in_err-put_activations.field-0.0 = search rules in
    listed_off g.K.Sink.writes (agenda_line c.args.rules.now) Activation c.args.activations.now _ _ _ _ r c.in_err-put_activations.ensures

pub put_text-requires : goal.put_text-requires
put_text-requires g c = puts_fine g.K.Sink.writes _ _ _ c.in_ok-put_activations.ensures

pub returns : goal.returns
returns g c = listed_all g.K.Sink.writes (agenda_line c.args.rules.now) Activation c.args.activations.now _ _ _ _ c.in_ok-put_activations.ensures (c.put_text.ensures (total_line (length c.args.activations.now) Activation) (search rules))
