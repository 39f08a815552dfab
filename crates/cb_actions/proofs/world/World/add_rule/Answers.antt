use Rattle.std.proofs.Common.{◌≡◌, ◌∙◌, [], Err, ap, false, nat_lt, refl, rules, sym, true}
use Rattle.cb_actions.specs.Internal.{told_so}
use Rattle.cb_actions.specs.declared.act.Break.TheVariants as break
use Rattle.cb_actions.specs.declared.act.EarlyEnd.TheVariants as ended
use Rattle.cb_actions.specs.declared.act.Limit.TheVariants.{Numbers}
use Rattle.cb_actions.proofs.ActLaws.{went_quietly, went_as}
use Rattle.cb_actions.proofs.ChangeLaws.{rule_added, rule_refused}
use Rattle.cb_actions.proofs.WentLaws.{went_result}
use Rattle.cb_io.specs.declared.stop.Stop.TheVariants as stop
use Rattle.cb_knowledge_base.specs.KnowledgeBase.{greatest_index}
use Rattle.cb_rules.specs.Elements.{branches_of}
use Rattle.cb_actions.proofs.world.World.add_rule.Goals as goal

pub returns-then-not-has_rule_number : goal.returns-then-not-has_rule_number
returns-then-not-has_rule_number g c =
    let e : nat_lt c.args.self.now.memory.last_rule greatest_index ≡ false = search rules in
    went_quietly g.K.Sink.writes _ _ (Err (break.Ended (ended.Limit Numbers))) _ c.requires.fine (rule_refused c.args.rule (branches_of c.args.branches.items) c.args.self.now e)

pub returns-in_err-done : goal.returns-in_err-done
returns-in_err-done g c =
    let r : c.from_residual.result ≡ Err (break.Stop stop.NoMemory) = search rules in
    went_result g.K.Sink.writes r (went_quietly g.K.Sink.writes _ _ (Err (break.Stop stop.NoMemory)) _ c.requires.fine tt)

pub returns : goal.returns
returns g c =
    let s = c.args.self.now in
    let t = c.keep_rule.new.self in
    let branches = branches_of c.args.branches.items in
    let e : nat_lt s.memory.last_rule greatest_index ≡ true = search rules in
    let line : c.as_slice.result.now ≡ [] = search rules in
    went_as g.K.Sink.writes _ _ _ _ _ _ _ refl (rule_added c.args.rule branches s e ∙ (c.in_ok-done.ensures [] ∙ ap (λ bytes. told_so bytes c.in_ok-done.done t) (sym line))) (c.tell_change.ensures t)
