use Rattle.std.proofs.Common.{◌≡◌, Err, List, None, Ok, Option, ap₂, refl, rules, sym}
use Rattle.cb_actions.specs.Acts.{Act, give, ◌>>=◌}
use Rattle.cb_actions.proofs.ActLaws.{went_then, went_off, went_quietly, went_as}
use Rattle.cb_actions.specs.Runs.{defined_rule}
use Rattle.cb_actions.specs.Worlds.{World}
use Rattle.cb_actions.specs.declared.act.Break.TheVariants as break
use Rattle.cb_io.specs.declared.stop.Stop.TheVariants as stop
use Rattle.cb_actions.proofs.WentLaws.{went_fine, went_result, went_unbegun}
use Rattle.cb_facts.specs.declared.value.Value.{Value}
use Rattle.cb_rules.specs.Elements.{Elements, branches_of}
use Rattle.cb_rules.specs.RuleInfos.{RuleInfo, info_of}
use Rattle.cb_rules.specs.RuleValues.{rule_value}
use Rattle.cb_actions.proofs.world.World.define.Goals as goal

abbrev nothing : Unit {0} → Act World (Option Value)
nothing _ = give None

pub returns-in_err-defined : goal.returns-in_err-defined
returns-in_err-defined g c =
    let r : c.from_residual.result ≡ Err (break.Stop stop.NoMemory) = search rules in
    went_result g.K.Sink.writes r (went_unbegun g.K.Sink.writes _ _ _ c.requires)

pub returns-in_err-define_rule : goal.returns-in_err-define_rule
returns-in_err-define_rule g c =
    let s = c.args.self.now in
    let r : c.from_residual-in_err-define_rule.result ≡ Err c.in_err-define_rule.field-0.0 = search rules in
    let info : c.in_ok-defined.defined ≡ info_of (rule_value c.args.rule) = search rules in
    let branches : branches_of c.in_ok-defined.branches.items ≡ (rule_value c.args.rule).branches = search rules in
    went_as g.K.Sink.writes _ _ _ _ _ _ _ r (ap₂ (λ (i : RuleInfo) (bs : List Elements). (defined_rule i bs >>= nothing) s) (sym info) (sym branches)) (went_off g.K.Sink.writes _ _ _ _ _ nothing c.in_err-define_rule.ensures)

pub returns : goal.returns
returns g c =
    let s = c.args.self.now in
    let info : c.in_ok-defined.defined ≡ info_of (rule_value c.args.rule) = search rules in
    let branches : branches_of c.in_ok-defined.branches.items ≡ (rule_value c.args.rule).branches = search rules in
    went_as g.K.Sink.writes _ _ _ _ _ _ _ refl (ap₂ (λ (i : RuleInfo) (bs : List Elements). (defined_rule i bs >>= nothing) s) (sym info) (sym branches)) (went_then g.K.Sink.writes _ _ _ _ _ _ _ _ nothing c.in_ok-define_rule.ensures
    (went_quietly g.K.Sink.writes _ _ (Ok None) _ (went_fine g.K.Sink.writes _ _ _ _ _ c.in_ok-define_rule.ensures) refl))
