use Rattle.std.proofs.Common.{◌≡◌, ◌∙◌, Err, Result, Some, Ok, [], Option, ap, sym, subst, rules}
use Rattle.cb_actions.specs.declared.act.EarlyEnd.{EarlyEnd}
use Rattle.cb_io.specs.declared.stop.Stop.{Stop}
use Rattle.cb_io.specs.declared.stop.Stop.TheVariants as stop
use Rattle.cb_session.proofs.ItemLaws.{concludes-exit, concludes-refused}
use Rattle.cb_session.specs.Internal.Executing.{Executes}
use Rattle.cb_session.specs.Transcripts.{concluded, exit_status}
use Rattle.cb_session.specs.declared.status.Status.{Status}
use Rattle.cb_session.proofs.engine.Engine.conclude.Goals as goal

pub returns-in_err-note-clause-run : goal.returns-in_err-note-clause-run
returns-in_err-note-clause-run g c =
    let r : c.from_residual.result ≡ Err stop.NoMemory = search rules in
    subst (λ (it : Result (Option Status) Stop). Executes g.K.Sink.writes c.args.out.now c.args.out.now c.args.self.now it (concluded c.args.self.now [] (Err c.args.end))) (sym r)
    (concludes-refused g.K.Sink.writes _ c.args.self.now c.args.end c.requires)

pub returns-in-Exit-clause-run : goal.returns-in-Exit-clause-run
returns-in-Exit-clause-run g c =
    subst (λ (it : EarlyEnd). Executes g.K.Sink.writes c.args.out.now c.args.out.now c.args.self.now (Ok (Some c.exited.result)) (concluded c.args.self.now [] (Err it))) (sym c.in-Exit.is)
    (concludes-exit g.K.Sink.writes _ c.args.self.now c.in-Exit.code c.exited.result c.requires (c.exited.ensures ∙ ap (exit_status c.in-Exit.code) c.is_faulted.ensures))
