use Rattle.std.proofs.Common.{◌≡◌, ◌∙◌, Err, sym, subst, rules}
use Rattle.cb_forms.specs.Trees.{reading_of}
use Rattle.cb_io.proofs.PutLaws.{puts_fine}
use Rattle.cb_session.specs.Actions.{acted}
use Rattle.cb_actions.specs.Went.{Went}
use Rattle.cb_actions.specs.declared.act.Break.TheVariants as break
use Rattle.cb_session.proofs.ItemLaws.{always, executes-done, executes-ended, executes-shown, executes-stopped, noted-done, noted-ended, noted-symbol}
use Rattle.cb_session.proofs.StepLaws.{on_ok}
use Rattle.cb_session.proofs.engine.Engine.execute.Goals as goal

pub returns-in-Some-clause-run : goal.returns-in-Some-clause-run
returns-in-Some-clause-run g c = executes-shown g.K.Sink.writes _ _ c.args.self.now (reading_of c.args.item.now) c.in-Some.name.now _ c.in-Some.ensures c.show_symbol.ensures.puts c.show_symbol.ensures.status

pub returns-in-Some-clause-places : goal.returns-in-Some-clause-places
returns-in-Some-clause-places g c = always _ c.show_symbol.result (sym (noted-symbol c.args.line c.args.self.now (reading_of c.args.item.now) c.in-Some.name.now c.args.places.now c.in-Some.ensures))

pub conclude-requires : goal.conclude-requires
conclude-requires g c =
    let r : c.act.result ≡ Err (break.Ended c.in-Err-Ended.end) = search rules in
    let h = subst (λ it. Went g.K.Sink.writes c.args.out.now c.act.new.out c.act.new.self it (acted (reading_of c.args.item.now) c.args.self.now)) r c.act.ensures in
    puts_fine g.K.Sink.writes _ _ _ h.puts

pub returns-in-Ok-clause-run : goal.returns-in-Ok-clause-run
returns-in-Ok-clause-run g c = executes-done g.K.Sink.writes _ _ c.args.self.now _ (reading_of c.args.item.now) c.in-Ok.field-0 c.in-Ok.ensures

pub returns-in-Ok-clause-places : goal.returns-in-Ok-clause-places
returns-in-Ok-clause-places g c = sym (noted-done c.args.line c.args.self.now (reading_of c.args.item.now) c.in-Ok.field-0 c.args.places.now c.in-Ok.ensures.answers.1)

pub returns-in-Err-Ended-clause-run : goal.returns-in-Err-Ended-clause-run
returns-in-Err-Ended-clause-run g c =
    let r : c.act.result ≡ Err (break.Ended c.in-Err-Ended.end) = search rules in
    let h = subst (λ it. Went g.K.Sink.writes c.args.out.now c.act.new.out c.act.new.self it (acted (reading_of c.args.item.now) c.args.self.now)) r c.act.ensures in
    executes-ended g.K.Sink.writes _ _ _ c.args.self.now c.act.new.self _ (reading_of c.args.item.now) c.in-Err-Ended.end c.conclude.result h c.conclude.ensures.run

pub returns-in-Err-Ended-clause-places : goal.returns-in-Err-Ended-clause-places
returns-in-Err-Ended-clause-places g c =
    let r : c.act.result ≡ Err (break.Ended c.in-Err-Ended.end) = search rules in
    let h = subst (λ it. Went g.K.Sink.writes c.args.out.now c.act.new.out c.act.new.self it (acted (reading_of c.args.item.now) c.args.self.now)) r c.act.ensures in
    let all = noted-ended c.args.line c.args.self.now c.act.new.self (reading_of c.args.item.now) c.in-Err-Ended.end c.args.places.now h.answers.0 h.answers.1 in
    on_ok _ _ c.conclude.result (λ e. e ∙ sym all) c.conclude.ensures.places

pub returns-in-Err-Stop-clause-run : goal.returns-in-Err-Stop-clause-run
returns-in-Err-Stop-clause-run g c =
    let r : c.act.result ≡ Err (break.Stop c.in-Err-Stop.stop) = search rules in
    let h = subst (λ it. Went g.K.Sink.writes c.args.out.now c.act.new.out c.act.new.self it (acted (reading_of c.args.item.now) c.args.self.now)) r c.act.ensures in
    executes-stopped g.K.Sink.writes _ _ c.args.self.now c.act.new.self (reading_of c.args.item.now) c.in-Err-Stop.stop h
