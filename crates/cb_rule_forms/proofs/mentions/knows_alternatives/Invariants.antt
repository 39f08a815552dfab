use Rattle.std.proofs.Common.{◌≡◌, drop, map}
use Rattle.std.specs.List.{flat_map, list_all}
use Rattle.cb_constraints.specs.Constraints.{check_of}
use Rattle.cb_expr_forms.specs.Scopes.{is_known}
use Rattle.cb_rule_forms.specs.Mentions.{checks_variables}
use Rattle.cb_rule_forms.proofs.mentions.knows_alternatives.Given as goal

abbrev pub invariant-loop-checks : goal.invariant-loop-checks
invariant-loop-checks l =
    list_all (is_known l.known) (flat_map checks_variables (map (λ cs. map check_of cs.items) (drop l.checks-index l.alternatives)))
    ≡ list_all (is_known l.known) (flat_map checks_variables (map (λ cs. map check_of cs.items) l.alternatives))
