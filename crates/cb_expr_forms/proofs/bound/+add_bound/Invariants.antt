use Rattle.std.proofs.Common.{◌≡◌, ◌++◌, drop}
use Rattle.cb_expr_forms.specs.Bound.{bound_in, bound_in_all}
use Rattle.cb_forms.specs.Members.{members}
use Rattle.cb_forms.specs.Trees.{tree_of}
use Rattle.cb_expr_forms.proofs.bound.+add_bound.Given as goal

abbrev pub invariant-loop-form : goal.invariant-loop-form
invariant-loop-form l = l.bound ++ bound_in_all (members (drop l.form-index l.form-items)) ≡ l.fn.bound ++ bound_in (tree_of l.form)
