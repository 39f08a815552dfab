use Rattle.std.proofs.Common.{◌∙◌, refl, ap}
use Rattle.std.specs.Option.{option_and_then}
use Rattle.cb_expr_forms.specs.ExprFaults.{type_faults}
use Rattle.cb_expr_forms.proofs.PlanLaws.{any_type}
use Rattle.cb_exprs.specs.Terms.{term_of}
use Rattle.cb_expr_forms.proofs.value_form.check_type.Goals as goal

pub returns-in_default : goal.returns-in_default
returns-in_default c = (ap (λ o. type_faults (option_and_then (λ s. s.now.types) o) (term_of c.args.value.now)) c.in_default.is ∙ any_type (term_of c.args.value.now), refl)
