use Rattle.std.proofs.Common.{◌≡◌, ◌∙◌, Option, Some, None, Err, Ok, ap, refl, rules, subst, sym}
use Rattle.cb_actions.specs.Changes.{gone_line}
use Rattle.cb_actions.specs.Internal.{IsForgotten, told_so}
use Rattle.cb_actions.specs.declared.act.Break.TheVariants as break
use Rattle.cb_actions.specs.declared.rescheduled.Rescheduled.{Rescheduled}
use Rattle.cb_actions.proofs.ActLaws.{went_quietly, went_as}
use Rattle.cb_actions.proofs.WentLaws.{went_result, went_unbegun}
use Rattle.cb_facts.specs.FactLists.{fact_at}
use Rattle.cb_io.specs.declared.stop.Stop.TheVariants as stop
use Rattle.cb_actions.proofs.world.World.drop_fact.Goals as goal

pub returns-in_err-line : goal.returns-in_err-line
returns-in_err-line g c =
    let r : c.from_residual.result ≡ Err (break.Stop stop.NoMemory) = search rules in
    went_result g.K.Sink.writes r (went_unbegun g.K.Sink.writes _ _ _ c.requires)

pub returns-in_err-done : goal.returns-in_err-done
returns-in_err-done g c =
    let r : c.from_residual-in_err-done.result ≡ Err (break.Stop stop.NoMemory) = search rules in
    went_result g.K.Sink.writes r (went_quietly g.K.Sink.writes _ _ (Err (break.Stop stop.NoMemory)) _ c.requires tt)

pub returns-in-Some : goal.returns-in-Some
returns-in-Some g c =
    let s = c.args.self.now in
    let t = c.forget.new.self in
    let m : IsForgotten c.args.ix s t (Some c.in-Some.done) = subst (λ (o : Option Rescheduled). IsForgotten c.args.ix s t o) c.in-Some.is c.in_ok-done.ensures in
    let line : c.as_slice.result.now ≡ gone_line s c.args.ix (fact_at s.memory.network.facts c.args.ix) = c.as_slice.ensures.value ∙ c.in_ok-line.ensures in
    went_as g.K.Sink.writes _ _ _ _ _ _ _ refl (m ∙ ap (λ bytes. told_so bytes c.in-Some.done t) (sym line)) (c.tell_change.ensures t)

pub returns : goal.returns
returns g c =
    let s = c.args.self.now in
    let t = c.forget.new.self in
    let m : IsForgotten c.args.ix s t None = search rules in
    went_quietly g.K.Sink.writes _ t (Ok tt) _ c.requires m
