use Rattle.std.proofs.Common.{◌≡◌, ℕ, ◌≤◌, Some}
use Rattle.std.specs.List.{slice_get}
use Rattle.cb_alpha_network.specs.Networks.{AlphaNetworkValue}
use Rattle.cb_branch.specs.Branches.{CanBeFilled}
use Rattle.cb_branch.specs.declared.branch.Branch.{Branch}
use Rattle.cb_facts.specs.FactLists.{IndexedFacts}
use Rattle.cb_rete.proofs.Filled.{AreFilledTo}
use Rattle.cb_rete.proofs.filling.fill_branches.Given as goal
use Rattle.cb_rete.specs.Filling.{IsFilling}
use Rattle.cb_rete.specs.Rules.{AreBranchesEntered, kept_branches}

abbrev pub invariant-loop-branch : goal.invariant-loop-branch
invariant-loop-branch g l =
    let bs = kept_branches l.initial.branches in
    record {
      place : l.number ≡ l.branch-index;
      stays : kept_branches l.branches ≡ bs;
      left : (k : ℕ) (b : Branch g.row.T.Denot) → l.branch-index ≤ k → slice_get l.branches k ≡ Some b → CanBeFilled b;
      filled : (v : AlphaNetworkValue) (fs : IndexedFacts) → IsFilling v fs l.setting.alphas.now → AreBranchesEntered v l.rule l.initial.branches
          → AreFilledTo v fs l.rule l.branch-index bs l.branches l.initial.come.items l.come.items l.initial.come_numbers.items l.come_numbers.items;
    }
