use Rattle.std.proofs.Common.{◌≡◌, Err, ap, codes, refl, rules}
use Rattle.cb_io.specs.Output.{stop_extent}
use Rattle.cb_actions.proofs.ActLaws.{stopped-more}
use Rattle.cb_io.proofs.PutLaws.{puts_as, puts_fine, puts_then}
use Rattle.cb_session.proofs.line.put_line.Goals as goal

pub returns-in_err-put : goal.returns-in_err-put
returns-in_err-put g c =
    let r : c.from_residual.result ≡ Err c.in_err-put.field-0.0 = search rules in
    puts_as g.K.Sink.writes _ _ _ _ _ _ (ap stop_extent r) refl (stopped-more g.K.Sink.writes _ _ c.in_err-put.field-0.0 c.args.text.now (codes "\n") c.in_err-put.ensures)

pub put-requires-2 : goal.put-requires-2
put-requires-2 g c = puts_fine g.K.Sink.writes _ _ _ c.in_ok-put.ensures

pub returns : goal.returns
returns g c = puts_then g.K.Sink.writes _ _ _ _ c.args.text.now (codes "\n") c.in_ok-put.ensures c.put-2.ensures
