use Rattle.std.proofs.Common.{◌≡◌, ◌++◌, drop}
use Rattle.cb_branch.specs.Alphas.{Facts}
use Rattle.cb_facts.specs.FactLists.{IndexedFacts}
use Rattle.cb_matches.specs.Changes.{AddsNumbers}
use Rattle.cb_matches.specs.Order.{IsRising}
use Rattle.cb_rete.proofs.BranchNumbers.{IsNumberBelow}
use Rattle.cb_rete.proofs.telling.tell_branches.Given as goal
use Rattle.cb_rete.specs.Rules.{AreBranchesOver, kept_branches}
use Rattle.cb_rule_keys.specs.Keys.{branch_keys}

abbrev pub invariant-loop-branch : goal.invariant-loop-branch
invariant-loop-branch g l = record {
  place : l.number ≡ l.branch-index;
  told : (facts : Facts) (fs : IndexedFacts) → IsRising fs → AreBranchesOver facts fs l.branches
      → l.keys.items ++ branch_keys l.rule l.branch-index (drop l.branch-index (kept_branches l.branches)) fs ≡ l.initial.keys.items ++ branch_keys l.rule 0 (kept_branches l.branches) fs;
  numbers : (facts : Facts) (fs : IndexedFacts) → AreBranchesOver facts fs l.branches
      → AddsNumbers (IsNumberBelow l.rule l.branch-index l.branches) l.initial.keys.items l.keys.items l.initial.numbers.items l.numbers.items;
}
