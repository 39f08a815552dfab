use Rattle.std.proofs.Common.{◌≡◌, [], drop}
use Rattle.std.specs.List.{filter, flat_map, list_all}
use Rattle.cb_expr_forms.specs.Scopes.{is_known}
use Rattle.cb_rule_forms.specs.Internal.{branches_read}
use Rattle.cb_rule_forms.specs.Mentions.{known_in, variables_faults}
use Rattle.cb_rule_forms.proofs.mentions.bind_branches.Given as goal

abbrev pub invariant-loop-branch : goal.invariant-loop-branch
invariant-loop-branch l =
    (flat_map (variables_faults []) (branches_read (drop l.branch-index l.others)) ≡ flat_map (variables_faults []) (branches_read l.others))
    × (filter (λ x. list_all (λ c. is_known (known_in [] c) x) (branches_read (drop l.branch-index l.others))) l.common
    ≡ filter (λ x. list_all (λ c. is_known (known_in [] c) x) (branches_read l.others)) l.initial.common)
