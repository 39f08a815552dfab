use Rattle.std.proofs.Common.{◌≡◌, drop, map}
use Rattle.std.specs.List.{list_all}
use Rattle.cb_constraints.specs.Constraints.{check_of}
use Rattle.cb_expr_forms.specs.Scopes.{is_known}
use Rattle.cb_rule_forms.specs.Mentions.{checks_variables}
use Rattle.cb_rule_forms.proofs.mentions.knows_checks.Given as goal

abbrev pub invariant-loop-check : goal.invariant-loop-check
invariant-loop-check l =
    list_all (is_known l.known) (checks_variables (map check_of (drop l.check-index l.checks))) ≡ list_all (is_known l.known) (checks_variables (map check_of l.checks))
