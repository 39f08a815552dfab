use Rattle.std.proofs.Common.{◌≡◌, ◌∙◌, ◌+◌, ◌++◌, ap, drop, get_or, map, rules}
use Rattle.std.proofs.lemmas.List.{at_drop_more}
use Rattle.std.specs.List.{flat_map}
use Rattle.cb_rule_forms.specs.Internal.{branches_read, form_value, with_names}
use Rattle.cb_rule_forms.specs.Relations.{patterns_relations}
use Rattle.cb_rules.specs.Elements.{elements}
use Rattle.cb_rule_forms.proofs.NameLaws.{two_parts}
use Rattle.cb_rule_forms.proofs.relations.add_branches.Goals as goal

pub loop-branch-preserved : goal.loop-branch-preserved
loop-branch-preserved c =
    let all = c.args.branches.now in
    let i = c.loop-branch.branch-index in
    let item = c.branch-item.result in
    let rest = flat_map patterns_relations (branches_read (drop (i + 1) all)) in
    let here = patterns_relations (elements (map form_value item.items)) in
    let same : get_or all i item ≡ item = search rules in
    let is : flat_map patterns_relations (branches_read (drop i all)) ≡ here ++ rest =
    at_drop_more (λ bs. flat_map patterns_relations (branches_read bs)) all i item c.loop-branch-test.true
    ∙ ap (λ b. patterns_relations (elements (map form_value b.items)) ++ rest) same
    in
    let added : c.add_relations.new.found ≡ with_names c.loop-branch.found here =
    c.in_ok-add_relations.ensures ∙ ap (λ es. with_names c.loop-branch.found (patterns_relations (elements (map form_value es)))) c.as_slice.ensures.value
    in
    two_parts c.loop-branch.found c.add_relations.new.found here rest _ is added ∙ c.loop-branch.invariant
