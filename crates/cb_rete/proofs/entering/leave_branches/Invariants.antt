use Rattle.std.proofs.Common.{◌≡◌, ℕ}
use Rattle.std.specs.List.{All}
use Rattle.cb_branch.specs.Branches.{CanBeFilled}
use Rattle.cb_alpha_network.specs.Networks.{AreAlphas}
use Rattle.cb_facts.specs.FactLists.{IndexedFacts}
use Rattle.cb_rete.proofs.Leaving.{AreLeftTo}
use Rattle.cb_rete.proofs.entering.leave_branches.Given as goal
use Rattle.cb_rete.specs.Rules.{AreBranchesEntered, kept_branches}

abbrev pub invariant-loop-branch : goal.invariant-loop-branch
invariant-loop-branch g l = record {
  place : l.number ≡ l.branch-index;
  left : All CanBeFilled l.branches → AreBranchesEntered l.initial.network l.rule l.branches → AreLeftTo l.rule l.branch-index (kept_branches l.branches) l.initial.network l.network;
  alphas : (fs : IndexedFacts) → AreAlphas l.initial.network fs → AreAlphas l.network fs;
}
