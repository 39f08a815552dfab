use Rattle.std.proofs.Common.{◌≡◌, Err, ap, refl, rules}
use Rattle.cb_io.specs.Output.{stop_extent}
use Rattle.cb_io.proofs.PutLaws.{puts_as}
use Rattle.cb_session.proofs.engine.show_symbol.Goals as goal

pub returns-in_err-put_line-clause-puts : goal.returns-in_err-put_line-clause-puts
returns-in_err-put_line-clause-puts g c =
    let r : c.from_residual.result ≡ Err c.in_err-put_line.field-0.0 = search rules in
    puts_as g.K.Sink.writes _ _ _ _ _ _ (ap stop_extent r) refl c.in_err-put_line.ensures
