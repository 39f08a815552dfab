use Rattle.std.proofs.Common.{refl}
use Rattle.cb_expr_forms.specs.ExprFaults.{all_faults, faults_of}
use Rattle.cb_expr_forms.proofs.RightLaws.{first_reported}
use Rattle.cb_expr_forms.proofs.laws.what_follows_a_fault_does_not_matter.Goals as goal

pub returns : goal.returns
returns c = λ s before t after f right h. first_reported (faults_of s) (all_faults s) (λ u us. refl) before t after f right h
