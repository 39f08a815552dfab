use Rattle.std.proofs.Common.{◌≡◌, Err, rules}
use Rattle.std.proofs.lemmas.List.{drop_all}
use Rattle.cb_io.proofs.PutLaws.{puts_fine}
use Rattle.cb_lines.specs.Lines.{agenda_line}
use Rattle.cb_session.proofs.ListingLaws.{all_begun, next_item, none_begun, one_more, one_off}
use Rattle.cb_session.proofs.listing.put_activations.Goals as goal

pub loop-activation-init : goal.loop-activation-init
loop-activation-init g c = none_begun g.K.Sink.writes (agenda_line c.args.rules.now) _ _ c.requires

pub put_text-requires : goal.put_text-requires
put_text-requires g c = puts_fine g.K.Sink.writes _ _ _ c.loop-activation.invariant.puts

pub loop-activation-preserved : goal.loop-activation-preserved
loop-activation-preserved g c =
    let it = c.activation-item.result in
    let line = agenda_line c.args.rules.now in
    let cut = next_item c.args.activations.now c.loop-activation.activation-index it c.loop-activation-test.true c.activation-item.is in
    one_more g.K.Sink.writes line _ _ _ _ _ _ it cut c.loop-activation.invariant (c.in_ok-put_text.ensures (line it) c.agenda_line.ensures)

pub returns-in_err-put_text : goal.returns-in_err-put_text
returns-in_err-put_text g c =
    let it = c.activation-item.result in
    let line = agenda_line c.args.rules.now in
    let cut = next_item c.args.activations.now c.loop-activation.activation-index it c.loop-activation-test.true c.activation-item.is in
    let r : c.from_residual.result ≡ Err c.in_err-put_text.field-0.0 = search rules in
    one_off g.K.Sink.writes line _ _ _ _ _ _ it _ _ cut r c.loop-activation.invariant (c.in_err-put_text.ensures (line it) c.agenda_line.ensures)

pub returns : goal.returns
returns g c = all_begun g.K.Sink.writes (agenda_line c.args.rules.now) _ _ _ _ (drop_all c.loop-activation.activation-index c.args.activations.now c.loop-activation-test.false) c.loop-activation.invariant
