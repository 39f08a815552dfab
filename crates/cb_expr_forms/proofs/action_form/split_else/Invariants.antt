use Rattle.std.proofs.Common.{◌≡◌, ◌++◌, List, length}
use Rattle.cb_expr_forms.proofs.Elses.{HasNoElse}
use Rattle.cb_forms.specs.declared.form.Form.{Form}
use Rattle.cb_expr_forms.proofs.action_form.split_else.Given as goal

abbrev pub invariant-loop-first : goal.invariant-loop-first
invariant-loop-first l = (done : List Form) × (l.actions ≡ done ++ l.rest) × (length done ≡ l.count) × HasNoElse done

abbrev pub decreases-loop-first : goal.decreases-loop-first
decreases-loop-first l = length l.rest
