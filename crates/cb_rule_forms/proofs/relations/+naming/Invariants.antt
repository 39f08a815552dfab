use Rattle.std.proofs.Common.{◌≡◌, drop, map}
use Rattle.cb_rule_forms.specs.Internal.{form_value, with_names}
use Rattle.cb_rule_forms.specs.Relations.{patterns_relations}
use Rattle.cb_rules.specs.Elements.{elements}
use Rattle.cb_rule_forms.proofs.relations.+naming.Given as goal

abbrev pub invariant-add_relations-loop-element : goal.invariant-add_relations-loop-element
invariant-add_relations-loop-element l =
    with_names l.found (patterns_relations (elements (map form_value (drop l.element-index l.branch))))
    ≡ with_names l.fn.found (patterns_relations (elements (map form_value l.branch)))
