use Rattle.std.proofs.Common.{◌≡◌, ◌++◌}
use Rattle.cb_rule_forms.specs.Internal.{branches_read}
use Rattle.cb_rules.specs.Elements.{branches_of}
use Rattle.cb_rule_forms.proofs.rule.close_branches.Given as goal

abbrev pub invariant-loop-branch : goal.invariant-loop-branch
invariant-loop-branch g l = branches_of l.closed.items ++ branches_read l.branch-iterator.rest.items ≡ branches_read l.fn.branches.items
