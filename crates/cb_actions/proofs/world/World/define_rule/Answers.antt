use Rattle.std.proofs.Common.{◌≡◌, ◌∙◌, Err, ap, false, nat_lt, option_map, refl, rules, sym, true}
use Rattle.cb_actions.specs.Acts.{Act, ◌>>=◌}
use Rattle.cb_actions.proofs.ActLaws.{went_then, went_off, went_quietly, went_as}
use Rattle.cb_actions.specs.Runs.{added_rule, replaced}
use Rattle.cb_knowledge_base.specs.KnowledgeBase.{greatest_index}
use Rattle.cb_rules.specs.RuleTables.{rule_named}
use Rattle.cb_actions.specs.Worlds.{World}
use Rattle.cb_rules.specs.RuleInfos.{RuleInfo}
use Rattle.cb_actions.specs.declared.act.Break.TheVariants as break
use Rattle.cb_actions.specs.declared.act.EarlyEnd.TheVariants as ended
use Rattle.cb_actions.specs.declared.act.Limit.TheVariants.{Numbers}
use Rattle.cb_actions.proofs.ChangeLaws.{definition_is, definition_refused}
use Rattle.cb_actions.proofs.WentLaws.{went_fine}
use Rattle.cb_rules.specs.Elements.{branches_of}
use Rattle.cb_actions.proofs.world.World.define_rule.Goals as goal

pub returns-then-not-has_rule_number : goal.returns-then-not-has_rule_number
returns-then-not-has_rule_number g c =
    let e : nat_lt c.args.self.now.memory.last_rule greatest_index ≡ false = search rules in
    went_quietly g.K.Sink.writes _ _ (Err (break.Ended (ended.Limit Numbers))) _ c.requires (definition_refused c.args.rule (branches_of c.args.branches.items) c.args.self.now e)

pub returns-in_err-drop_named : goal.returns-in_err-drop_named
returns-in_err-drop_named g c =
    let e : nat_lt c.args.self.now.memory.last_rule greatest_index ≡ true = search rules in
    let r : c.from_residual.result ≡ Err c.in_err-drop_named.field-0.0 = search rules in
    let next : Unit {0} → Act World (Unit {0}) = λ _. added_rule c.args.rule (branches_of c.args.branches.items) in
    went_as g.K.Sink.writes _ _ _ _ _ _ _ r (definition_is c.args.rule (branches_of c.args.branches.items) c.args.self.now e ∙ ap (λ (it : RuleInfo). (replaced (option_map (λ r. r.id) (rule_named it.name c.args.self.now.rules)) >>= next) c.args.self.now) (sym c.rule.view_is)) (went_off g.K.Sink.writes _ _ _ _ _ next c.in_err-drop_named.ensures.went)

pub add_rule-requires-clause-fine : goal.add_rule-requires-clause-fine
add_rule-requires-clause-fine g c = went_fine g.K.Sink.writes _ _ _ _ _ c.in_ok-drop_named.ensures.went

pub returns : goal.returns
returns g c =
    let e : nat_lt c.args.self.now.memory.last_rule greatest_index ≡ true = search rules in
    let next : Unit {0} → Act World (Unit {0}) = λ _. added_rule c.args.rule (branches_of c.args.branches.items) in
    went_as g.K.Sink.writes _ _ _ _ _ _ _ refl (definition_is c.args.rule (branches_of c.args.branches.items) c.args.self.now e ∙ ap (λ (it : RuleInfo). (replaced (option_map (λ r. r.id) (rule_named it.name c.args.self.now.rules)) >>= next) c.args.self.now) (sym c.rule.view_is)) (went_then g.K.Sink.writes _ _ _ _ _ _ _ _ next c.in_ok-drop_named.ensures.went c.add_rule.ensures)
