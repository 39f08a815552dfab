use Rattle.std.proofs.Common.{◌≡◌, drop}
use Rattle.std.specs.List.{list_all}
use Rattle.cb_expr_forms.specs.Scopes.{is_known}
use Rattle.cb_expr_forms.specs.Variables.{variables_in}
use Rattle.cb_exprs.specs.Terms.{terms_of}
use Rattle.cb_expr_forms.proofs.variables.+knowing.Given as goal

abbrev pub invariant-knows_each-loop-expr : goal.invariant-knows_each-loop-expr
invariant-knows_each-loop-expr l =
    list_all (is_known l.known) (variables_in (terms_of (drop l.expr-index l.exprs))) ≡ list_all (is_known l.known) (variables_in (terms_of l.exprs))
