use Rattle.std.proofs.Common.{◌≡◌, ◌++◌, drop, map}
use Rattle.cb_rule_forms.specs.Rules.{layout_of}
use Rattle.cb_rules.specs.Elements.{element_of, elements}
use Rattle.cb_rule_forms.proofs.rule.lay_out.Given as goal

abbrev pub invariant-loop-element : goal.invariant-loop-element
invariant-loop-element g l =
    l.members.items ++ layout_of (elements (map element_of (drop l.element-index l.branch))) ≡ layout_of (elements (map element_of l.branch))
