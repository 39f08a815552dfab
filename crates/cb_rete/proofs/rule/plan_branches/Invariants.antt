use Rattle.std.proofs.Common.{◌≡◌, ◌++◌}
use Rattle.std.specs.List.{All}
use Rattle.cb_rete.specs.Rules.{kept_branches}
use Rattle.cb_branch.specs.Branches.{CanBeFilled}
use Rattle.cb_rules.specs.Elements.{branches_of}
use Rattle.cb_rete.proofs.rule.plan_branches.Given as goal

abbrev pub invariant-loop-branch : goal.invariant-loop-branch
invariant-loop-branch g l = record {
  made : kept_branches l.all.items ++ branches_of l.branch-iterator.rest.items ≡ branches_of l.initial.branch-iterator.rest.items;
  plans : All CanBeFilled l.all.items;
}
