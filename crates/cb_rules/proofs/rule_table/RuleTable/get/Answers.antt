use Rattle.std.proofs.Common.{◌∙◌, ap}
use Rattle.cb_rules.proofs.TableLaws.{at_number}
use Rattle.cb_rules.specs.RuleTables.{rule_numbered}
use Rattle.cb_rules.proofs.rule_table.RuleTable.get.Goals as goal

pub returns : goal.returns
returns c = c.get.ensures.value ∙ at_number c.self.inside.rules.entries c.args.id c.self.invariant.own ∙ ap (rule_numbered c.args.id) c.self.view_is
