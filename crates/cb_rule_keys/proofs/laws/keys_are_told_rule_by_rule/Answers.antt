use Rattle.cb_rule_keys.proofs.Networks.{rule_keys_more}
use Rattle.cb_rule_keys.proofs.laws.keys_are_told_rule_by_rule.Goals as goal

pub returns : goal.returns
returns c = λ r rules fs. rule_keys_more r rules fs
