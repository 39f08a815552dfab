use Rattle.std.proofs.Common.{◌≡◌, ◌∙◌, [], Err, Ok, ap, refl, rules, sym}
use Rattle.cb_actions.specs.Acts.{Act, give}
use Rattle.cb_actions.specs.Changes.{moved}
use Rattle.cb_actions.specs.Internal.{told_so}
use Rattle.cb_actions.specs.Runs.{forgotten}
use Rattle.cb_actions.specs.Worlds.{World}
use Rattle.cb_actions.specs.declared.act.Break.TheVariants as break
use Rattle.cb_actions.proofs.ActLaws.{went_as, went_then, went_off, went_quietly}
use Rattle.cb_actions.proofs.WentLaws.{went_fine, went_unbegun, went_result}
use Rattle.cb_io.specs.declared.stop.Stop.TheVariants as stop
use Rattle.cb_knowledge_base.specs.KnowledgeBase.{without_one_rule}
use Rattle.cb_actions.proofs.world.World.drop_rule.Goals as goal

pub returns-in_err-done-clause-went : goal.returns-in_err-done-clause-went
returns-in_err-done-clause-went g c =
    let r : c.from_residual.result ≡ Err (break.Stop stop.NoMemory) = search rules in
    went_result g.K.Sink.writes r (went_unbegun g.K.Sink.writes _ _ _ c.requires)

pub returns-in_err-tell_change-clause-went : goal.returns-in_err-tell_change-clause-went
returns-in_err-tell_change-clause-went g c =
    let t = c.take_rule.new.self in
    let line : c.as_slice.result.now ≡ [] = search rules in
    let r : c.from_residual-in_err-tell_change.result ≡ Err c.in_err-tell_change.field-0.0 = search rules in
    let next : Unit {0} → Act World (Unit {0}) = λ _. forgotten c.args.id in
    let is : moved (without_one_rule c.args.id c.args.self.now.memory) [] c.args.self.now ≡ told_so c.as_slice.result.now c.in_ok-done.done t = c.in_ok-done.ensures.moved [] ∙ ap (λ bytes. told_so bytes c.in_ok-done.done t) (sym line) in
    went_result g.K.Sink.writes r (went_off g.K.Sink.writes _ _ _ _ _ next (went_as g.K.Sink.writes _ _ _ _ _ _ _ refl is (c.in_err-tell_change.ensures t)))

pub returns-clause-went : goal.returns-clause-went
returns-clause-went g c =
    let t = c.take_rule.new.self in
    let line : c.as_slice.result.now ≡ [] = search rules in
    let next : Unit {0} → Act World (Unit {0}) = λ _. forgotten c.args.id in
    let is : moved (without_one_rule c.args.id c.args.self.now.memory) [] c.args.self.now ≡ told_so c.as_slice.result.now c.in_ok-done.done t = c.in_ok-done.ensures.moved [] ∙ ap (λ bytes. told_so bytes c.in_ok-done.done t) (sym line) in
    let first = went_as g.K.Sink.writes _ _ _ _ _ _ _ refl is (c.in_ok-tell_change.ensures t) in
    went_then g.K.Sink.writes _ _ _ _ _ _ _ _ next first
    (went_quietly g.K.Sink.writes _ _ (Ok tt) _ (went_fine g.K.Sink.writes _ _ _ _ _ first) (ap (λ (w : World). give tt w) (sym c.forget_rule.ensures)))
