use Rattle.std.proofs.Common.{◌≡◌, ℕ, ◌+◌, ◌<◌, Some, drop}
use Rattle.std.specs.List.{All, slice_get}
use Rattle.cb_branch.specs.Branches.{CanBeFilled, IsEntered}
use Rattle.cb_branch.specs.Entries.{GainsPatterns}
use Rattle.cb_branch.specs.Patterns.{branch_patterns}
use Rattle.cb_branch.specs.declared.branch.Branch.{Branch}
use Rattle.cb_rete.proofs.entering.enter_branches.Given as goal
use Rattle.cb_rete.specs.Rules.{kept_branches}
use Rattle.cb_rule_keys.specs.Sums.{branches_sum}

abbrev pub invariant-loop-branch : goal.invariant-loop-branch
invariant-loop-branch g l =
    let bs = kept_branches l.initial.branches in
    record {
      place : l.number ≡ l.branch-index;
      stays : kept_branches l.branches ≡ bs;
      plans : All CanBeFilled l.branches;
      entered : (k : ℕ) (b : Branch g.row.T.Denot) → k < l.branch-index → slice_get l.branches k ≡ Some b → IsEntered l.network l.rule k b;
      gains : (n : ℕ) × (n + branches_sum branch_patterns (drop l.branch-index bs) ≡ branches_sum branch_patterns bs) × GainsPatterns l.facts n l.initial.network l.network;
    }
