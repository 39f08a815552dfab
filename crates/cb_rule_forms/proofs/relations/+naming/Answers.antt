use Rattle.std.proofs.Common.{◌≡◌, ◌∙◌, ◌+◌, ◌++◌, ap, drop, get_or, map, rules}
use Rattle.std.proofs.lemmas.List.{at_drop_more}
use Rattle.cb_rule_forms.specs.Internal.{form_value}
use Rattle.cb_rule_forms.specs.Relations.{pattern_relations, patterns_relations}
use Rattle.cb_rules.specs.Elements.{elements}
use Rattle.cb_rule_forms.proofs.NameLaws.{two_parts}
use Rattle.cb_rule_forms.proofs.relations.+naming.Goals as goal

pub add_relations-loop-element-preserved : goal.add_relations-loop-element-preserved
add_relations-loop-element-preserved t c =
    let all = c.args.branch.now in
    let i = c.loop-element.element-index in
    let item = c.element-item.result in
    let rest = patterns_relations (elements (map form_value (drop (i + 1) all))) in
    let same : get_or all i item ≡ item = search rules in
    let is : patterns_relations (elements (map form_value (drop i all))) ≡ pattern_relations (form_value item) ++ rest =
    at_drop_more (λ es. patterns_relations (elements (map form_value es))) all i item c.loop-element-test.true
    ∙ ap (λ it. pattern_relations (form_value it) ++ rest) same
    in
    two_parts c.loop-element.found c.add_relation.new.found (pattern_relations (form_value item)) rest _ is c.in_ok-add_relation.ensures ∙ c.loop-element.invariant
