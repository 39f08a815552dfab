use Rattle.std.proofs.Common.{◌≡◌, drop}
use Rattle.cb_exprs.specs.Terms.{terms_of}
use Rattle.cb_rule_forms.specs.Internal.{with_names}
use Rattle.cb_rule_forms.specs.Relations.{asserted_in}
use Rattle.cb_rule_forms.proofs.relations.+asserted.Given as goal

abbrev pub invariant-add_each_asserted-loop-expr : goal.invariant-add_each_asserted-loop-expr
invariant-add_each_asserted-loop-expr l =
    with_names l.found (asserted_in (terms_of (drop l.expr-index l.exprs))) ≡ with_names l.fn.found (asserted_in (terms_of l.exprs))
