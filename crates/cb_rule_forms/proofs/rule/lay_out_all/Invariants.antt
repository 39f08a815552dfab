use Rattle.std.proofs.Common.{◌≡◌, ◌++◌, drop, map}
use Rattle.cb_rule_forms.specs.Rules.{layout_of}
use Rattle.cb_rules.specs.Elements.{branches_of}
use Rattle.cb_rule_forms.proofs.rule.lay_out_all.Given as goal

abbrev pub invariant-loop-branch : goal.invariant-loop-branch
invariant-loop-branch g l = l.layouts.items ++ map layout_of (branches_of (drop l.branch-index l.branches)) ≡ map layout_of (branches_of l.branches)
