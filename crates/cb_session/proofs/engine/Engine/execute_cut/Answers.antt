use Rattle.std.proofs.Common.{◌≡◌, Ok, None, ap, ◌∙◌, subst}
use Rattle.cb_forms.specs.Trees.{reading_of}
use Rattle.cb_io.specs.Output.{Puts, stop_extent}
use Rattle.cb_io.proofs.PutLaws.{puts_fine}
use Rattle.cb_session.specs.Transcripts.{executed}
use Rattle.cb_session.specs.Internal.Executing.{Executes}
use Rattle.cb_session.proofs.ItemLaws.{executes-none, executes-long, executes-two, executes-first}
use Rattle.cb_session.proofs.engine.Engine.execute_cut.Goals as goal

pub execute-requires-in-Ok-None : goal.execute-requires-in-Ok-None
execute-requires-in-Ok-None g c = puts_fine g.K.Sink.writes _ _ _ c.in-Ok-None.ensures.run.puts

pub returns-in-More-clause-run : goal.returns-in-More-clause-run
returns-in-More-clause-run g c = executes-none g.K.Sink.writes _ c.args.self.now c.args.cut.now c.in-More.is c.requires

pub returns-in-Ok-None-clause-run : goal.returns-in-Ok-None-clause-run
returns-in-Ok-None-clause-run g c =
    let none : c.execute-in-TwoItems.result ≡ Ok None = c.in-Ok-None.is ∙ ap Ok c.in-Ok-None.field-0-is in
    let one : Executes g.K.Sink.writes c.args.out.now c.execute-in-TwoItems.new.out c.execute-in-TwoItems.new.self (Ok None) (executed c.args.self.now (reading_of c.in-TwoItems.first)) =
    subst (λ it. Executes g.K.Sink.writes c.args.out.now c.execute-in-TwoItems.new.out c.execute-in-TwoItems.new.self it (executed c.args.self.now (reading_of c.in-TwoItems.first))) none c.execute-in-TwoItems.ensures.run in
    executes-two g.K.Sink.writes _ _ _ c.args.self.now _ _ c.args.cut.now c.in-TwoItems.first c.in-TwoItems.second _ c.in-TwoItems.is one c.execute-in-Ok-None.ensures.run

pub returns-in-Err-clause-run : goal.returns-in-Err-clause-run
returns-in-Err-clause-run g c = executes-first g.K.Sink.writes _ _ c.args.self.now _ c.args.cut.now c.in-TwoItems.first c.in-TwoItems.second c.in-Err.stop c.in-TwoItems.is c.in-Err.ensures.run

pub returns-in-TooLong-clause-run : goal.returns-in-TooLong-clause-run
returns-in-TooLong-clause-run g c =
    let line = subst (λ it. Puts g.K.Sink.writes c.args.out.now c.end_at_limit.new.out (stop_extent c.end_at_limit.result) it) c.too_long_line.ensures c.end_at_limit.ensures.puts in
    executes-long g.K.Sink.writes _ _ c.args.self.now c.args.cut.now _ c.in-TooLong.is line c.end_at_limit.ensures.status
