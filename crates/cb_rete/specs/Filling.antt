-- Rules that are filled over all facts.
use Rattle.std.specs.Prelude.{◌≡◌, ◌++◌, ◌<◌, ℕ, List, length}
use Rattle.std.specs.BTreeMap.{BTreeMap, values}
use Rattle.cb_alpha_network.specs.Networks.{AlphaNetworkValue, AreAlphas, IsShapeAt, MemoryValues}
use Rattle.cb_branch.specs.Alphas.{live_facts}
use Rattle.cb_branch.specs.declared.branch.Branch.{Branch}
use Rattle.cb_constraints.specs.PatternValues.{PatternValue}
use Rattle.cb_facts.specs.FactLists.{IndexedFacts}
use Rattle.cb_matches.specs.Changes.{AddsNumbers}
use Rattle.cb_matches.specs.Keys.{KeyValue}
use Rattle.cb_matches.specs.Order.{IsRising}
use Rattle.cb_rete.specs.Numbers.{IsNumberInBranches, IsNumberInRules}
use Rattle.cb_rete.specs.Rules.{AreBranchesEntered, AreBranchesOver, AreRulesEntered, AreRulesOver, kept_rules}
use Rattle.cb_rete.specs.declared.rule.Rule.{Rule}
use Rattle.cb_rule_keys.specs.Keys.{branch_keys, rule_keys}
use Rattle.cb_rules.specs.Elements.{Elements}

-- these are the memories of the network, over these facts
pub record IsFilling (v : AlphaNetworkValue) (fs : IndexedFacts) (given : MemoryValues) : Type 0 where
  pub memories : given ≡ v.memories
  pub within : (n : ℕ) (p : PatternValue) → IsShapeAt v n p → n < length given
  pub rising : IsRising fs
  pub alphas : AreAlphas v fs

module _ {T : Type 0} where
  -- the branches of a rule with these elements are filled, and their keys told, and their numbers
  pub record AreBranchesFilled (v : AlphaNetworkValue) (fs : IndexedFacts) (rule : ℕ) (elements : List Elements) (bs : List (Branch T)) (told told' : List KeyValue) (numbers numbers' : List ℕ) : Type 0 where
    pub over : AreBranchesOver (live_facts v.memories) fs bs
    pub entered : AreBranchesEntered v rule bs
    pub come : told' ≡ told ++ branch_keys rule 0 elements fs
    pub told_numbers : AddsNumbers (IsNumberInBranches rule bs) told told' numbers numbers'

  -- so are rules
  pub record AreRulesFilled (v : AlphaNetworkValue) (fs : IndexedFacts) (old new : BTreeMap ℕ (Rule T)) (told told' : List KeyValue) (numbers numbers' : List ℕ) : Type 0 where
    pub over : AreRulesOver (live_facts v.memories) fs new.entries
    pub entered : AreRulesEntered v new.entries
    pub come : told' ≡ told ++ rule_keys (kept_rules (values old)) fs
    pub told_numbers : AddsNumbers (IsNumberInRules new.entries) told told' numbers numbers'
