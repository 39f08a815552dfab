use Rattle.std.proofs.Common.{[], refl, sym, ap}
use Rattle.std.proofs.lemmas.List.{append-nil}
use Rattle.cb_io.specs.Output.{extent_at}
use Rattle.cb_io.proofs.PutLaws.{puts_as, puts_fine, puts_fine_part, puts_then}
use Rattle.cb_session.specs.Transcripts.{added_at_end}
use Rattle.cb_session.proofs.session.Session.finish.Goals as goal

pub flush-requires : goal.flush-requires
flush-requires g c = puts_fine g.K.Sink.writes _ _ _ c.in-Ok.ensures.puts

pub halt-stop-requires : goal.halt-stop-requires
halt-stop-requires g c = λ e. puts_fine_part g.K.Sink.writes _ _ _ (puts_as g.K.Sink.writes _ _ _ _ _ _ (sym (ap extent_at e)) refl c.in-Err.ensures.puts)

pub returns-in-Ok-flush-clause-puts : goal.returns-in-Ok-flush-clause-puts
returns-in-Ok-flush-clause-puts g c = λ on goes.
    let adds = added_at_end c.args.self.now.setup c.args.self.now.fed in
    puts_as g.K.Sink.writes _ _ _ _ _ _ refl (sym (append-nil adds)) (puts_then g.K.Sink.writes _ _ _ _ adds [] c.in-Ok.ensures.puts c.in-Ok-flush.ensures.puts)

pub returns-in-Err-flush-clause-puts : goal.returns-in-Err-flush-clause-puts
returns-in-Err-flush-clause-puts g c = λ on goes.
    let adds = added_at_end c.args.self.now.setup c.args.self.now.fed in
    puts_as g.K.Sink.writes _ _ _ _ _ _ refl (sym (append-nil adds)) (puts_then g.K.Sink.writes _ _ _ _ adds [] c.in-Ok.ensures.puts c.in-Err-flush.ensures.puts)
