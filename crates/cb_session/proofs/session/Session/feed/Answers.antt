use Rattle.std.proofs.Common.{◌≡◌, [], refl, sym, ap, subst, ◌∙◌}
use Rattle.std.proofs.lemmas.List.{append-nil}
use Rattle.cb_io.specs.Output.{extent_at}
use Rattle.cb_io.proofs.PutLaws.{puts_as, puts_fine, puts_fine_part, puts_then}
use Rattle.cb_session.specs.Sessions.{SessionState}
use Rattle.cb_session.specs.Setups.{setup_of}
use Rattle.cb_session.specs.Transcripts.{added, so_far}
use Rattle.cb_session.proofs.ScriptLaws.{way-status}
use Rattle.cb_session.proofs.session.Session.feed.Goals as goal

pub feed_all-requires-clause-goes : goal.feed_all-requires-clause-goes
feed_all-requires-clause-goes g c =
    let inside = c.self.inside in
    let way = c.self.invariant.0 c.in_default.is c.in_default-status.is in
    let P : SessionState → Type 0 = λ it. it.status ≡ (so_far it.setup it.fed).status in
    subst P c.self.view_is (c.in_default-status.is ∙ sym (way-status (setup_of inside.limits inside.numbers) inside.fed.items inside.cutter inside.engine way))

pub flush-requires : goal.flush-requires
flush-requires g c = puts_fine g.K.Sink.writes _ _ _ c.in-Ok.ensures.puts

pub halt-stop-requires : goal.halt-stop-requires
halt-stop-requires g c = λ e. puts_fine_part g.K.Sink.writes _ _ _ (puts_as g.K.Sink.writes _ _ _ _ _ _ (sym (ap extent_at e)) refl c.in-Err.ensures.puts)

pub returns-in-Ok-flush-clause-puts : goal.returns-in-Ok-flush-clause-puts
returns-in-Ok-flush-clause-puts g c = λ on goes.
    let adds = added c.args.self.now.setup c.args.self.now.fed c.args.bytes.now in
    puts_as g.K.Sink.writes _ _ _ _ _ _ refl (sym (append-nil adds)) (puts_then g.K.Sink.writes _ _ _ _ adds [] c.in-Ok.ensures.puts c.in-Ok-flush.ensures.puts)

pub returns-in-Err-flush-clause-puts : goal.returns-in-Err-flush-clause-puts
returns-in-Err-flush-clause-puts g c = λ on goes.
    let adds = added c.args.self.now.setup c.args.self.now.fed c.args.bytes.now in
    puts_as g.K.Sink.writes _ _ _ _ _ _ refl (sym (append-nil adds)) (puts_then g.K.Sink.writes _ _ _ _ adds [] c.in-Ok.ensures.puts c.in-Err-flush.ensures.puts)
