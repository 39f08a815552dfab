use Rattle.cb_actions.specs.Commands.{rule_defined}
use Rattle.cb_rules.specs.RuleValues.{rule_value}
use Rattle.cb_session.proofs.WorldLaws.{went_inside}
use Rattle.cb_session.proofs.engine.Engine.define_rule.Goals as goal

pub returns : goal.returns
returns g c = went_inside g.K.Sink.writes _ _ _ _ _ _ (rule_defined (rule_value c.args.rule)) c.self.view_is c.define.ensures
