use Rattle.std.proofs.Common.{◌≡◌, ◌++◌, drop}
use Rattle.cb_expr_forms.specs.Bound.{bound_in_all}
use Rattle.cb_forms.specs.Members.{members}
use Rattle.cb_rule_forms.proofs.actions.add_bound.Given as goal

abbrev pub invariant-loop-name : goal.invariant-loop-name
invariant-loop-name l = l.known ++ drop l.name-index l.name-items ≡ l.fn.known ++ bound_in_all (members l.forms)
