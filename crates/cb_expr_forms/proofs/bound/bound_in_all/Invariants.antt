use Rattle.std.proofs.Common.{◌≡◌, ◌++◌, drop}
use Rattle.cb_expr_forms.specs.Bound.{bound_in_all}
use Rattle.cb_forms.specs.Members.{members}
use Rattle.cb_expr_forms.proofs.bound.bound_in_all.Given as goal

abbrev pub invariant-loop-form : goal.invariant-loop-form
invariant-loop-form l = l.bound ++ bound_in_all (members (drop l.form-index l.forms)) ≡ bound_in_all (members l.forms)
