use Rattle.std.proofs.Common.{◌++◌}
use Rattle.std.specs.BTreeMap.{values}
use Rattle.cb_alpha_network.specs.Networks.{AlphaNetworkValue}
use Rattle.cb_facts.specs.FactLists.{IndexedFacts}
use Rattle.cb_rete.proofs.FilledRules.{AreFilled, IsMoved}
use Rattle.cb_rete.proofs.filling.fill_rules.Given as goal
use Rattle.cb_rete.specs.Filling.{IsFilling}
use Rattle.cb_rete.specs.Rules.{AreRulesEntered, kept_rules}
use Rattle.cb_rule_keys.specs.Keys.{rule_keys}

abbrev pub invariant-loop-id : goal.invariant-loop-id
invariant-loop-id g l =
    let rs = kept_rules (values l.fn.rules) in
    record {
      moved : IsMoved rs l.filled.entries l.id-iterator;
      filled : (v : AlphaNetworkValue) (fs : IndexedFacts) → IsFilling v fs l.setting.alphas.now → AreRulesEntered v l.fn.rules.entries
          → AreFilled v fs (l.initial.come.items ++ rule_keys rs fs) l.filled.entries l.id-iterator l.initial.come.items l.come.items l.initial.come_numbers.items l.come_numbers.items;
    }
