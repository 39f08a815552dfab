use Rattle.std.proofs.Common.{◌≡◌, drop, map}
use Rattle.cb_rule_forms.specs.Internal.{form_value}
use Rattle.cb_rule_forms.specs.Mentions.{known_in, variables_faults}
use Rattle.cb_rules.specs.Elements.{elements}
use Rattle.cb_rule_forms.proofs.mentions.+binding.Given as goal

abbrev pub invariant-bind_elements-loop-element : goal.invariant-bind_elements-loop-element
invariant-bind_elements-loop-element l =
    (variables_faults l.known (elements (map form_value (drop l.element-index l.elements))) ≡ variables_faults l.fn.known (elements (map form_value l.elements)))
    × (known_in l.known (elements (map form_value (drop l.element-index l.elements))) ≡ known_in l.fn.known (elements (map form_value l.elements)))
