use Rattle.std.proofs.Common.{◌≡◌, drop}
use Rattle.std.specs.List.{flat_map}
use Rattle.cb_rule_forms.specs.Internal.{branches_read, with_names}
use Rattle.cb_rule_forms.specs.Relations.{patterns_relations}
use Rattle.cb_rule_forms.proofs.relations.add_branches.Given as goal

abbrev pub invariant-loop-branch : goal.invariant-loop-branch
invariant-loop-branch l =
    with_names l.found (flat_map patterns_relations (branches_read (drop l.branch-index l.branches)))
    ≡ with_names l.fn.found (flat_map patterns_relations (branches_read l.branches))
