use Rattle.std.proofs.Common.{◌≡◌, ◌++◌, map}
use Rattle.cb_rule_forms.specs.Internal.{form_value}
use Rattle.cb_rules.specs.Elements.{element_of}
use Rattle.cb_rule_forms.proofs.rule.+closing.Given as goal

abbrev pub invariant-close_elements-loop-element : goal.invariant-close_elements-loop-element
invariant-close_elements-loop-element g l = map element_of l.closed.items ++ map form_value l.element-iterator.rest.items ≡ map form_value l.fn.elements.items
