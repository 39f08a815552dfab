-- What is kept for rules.
use Rattle.std.specs.Prelude.{◌≡◌, ◌≤◌, ℕ, List, Some, All, map, slice_get}
use Rattle.std.specs.BTreeMap.{BTreeMap, values}
use Rattle.cb_alpha_network.specs.Networks.{AlphaNetworkValue, AreAlphas, use_count}
use Rattle.cb_branch.specs.Branches.{CanBeFilled, IsBranchOver, IsEntered, branch_elements}
use Rattle.cb_branch.specs.Alphas.{Facts, live_facts}
use Rattle.cb_branch.specs.Patterns.{branch_patterns}
use Rattle.cb_branch.specs.declared.branch.Branch.{Branch}
use Rattle.cb_facts.specs.FactLists.{IndexedFacts}
use Rattle.cb_matches.specs.Chains.{In}
use Rattle.cb_matches.specs.Networks.{Conditions}
use Rattle.cb_rete.specs.declared.rule.Rule.{Rule}
use Rattle.cb_rule_keys.specs.Numbers.{AreNamed}
use Rattle.cb_rule_keys.specs.Sums.{rules_sum}
use Rattle.cb_rules.specs.Elements.{Elements}

module _ {T : Type 0} where
  -- the elements of branches, and the rules, that are kept
  abbrev pub kept_branches : List (Branch T) → List Elements
  kept_branches bs = map branch_elements bs

  abbrev pub kept_rule : Rule T → ℕ × List Elements
  kept_rule r = (r.id, kept_branches r.branches.items)

  abbrev pub kept_rules : List (Rule T) → Conditions
  kept_rules rules = map kept_rule rules

  -- each branch can be found
  abbrev pub CanRuleBeFilled : Rule T → Type 0
  CanRuleBeFilled r = All CanBeFilled r.branches.items

  -- what is kept for the branches of a rule is right over these facts, which stand in alpha memories under these numbers
  abbrev pub AreBranchesOver : Facts → IndexedFacts → List (Branch T) → Type 0
  AreBranchesOver facts fs bs = (j : ℕ) (b : Branch T) → slice_get bs j ≡ Some b → IsBranchOver facts fs b

  -- their patterns are in the alpha network
  abbrev pub AreBranchesEntered : AlphaNetworkValue → ℕ → List (Branch T) → Type 0
  AreBranchesEntered v rule bs = (j : ℕ) (b : Branch T) → slice_get bs j ≡ Some b → IsEntered v rule j b

  -- the same of rules
  abbrev pub AreRulesOver : Facts → IndexedFacts → List (ℕ × Rule T) → Type 0
  AreRulesOver facts fs rules = (e : ℕ × Rule T) → In e rules → AreBranchesOver facts fs e.1.branches.items

  abbrev pub AreRulesEntered : AlphaNetworkValue → List (ℕ × Rule T) → Type 0
  AreRulesEntered v rules = (e : ℕ × Rule T) → In e rules → AreBranchesEntered v e.1.id e.1.branches.items

  -- what a matcher keeps between changes: rules under their numbers, and alpha memories, over the same facts. No nodes
  -- use the network but those of the rules' patterns
  pub record IsKeeping (v : AlphaNetworkValue) (fs : IndexedFacts) (rules : BTreeMap ℕ (Rule T)) : Type 0 where
    pub named : AreNamed kept_rule rules.entries
    pub alphas : AreAlphas v fs
    pub over : AreRulesOver (live_facts v.memories) fs rules.entries
    pub entered : AreRulesEntered v rules.entries
    pub count : use_count v ≤ rules_sum branch_patterns (kept_rules (values rules))
