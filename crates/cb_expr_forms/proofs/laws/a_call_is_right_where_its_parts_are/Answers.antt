use Rattle.cb_expr_forms.specs.ExprFaults.{facts_faults, modify_faults}
use Rattle.cb_expr_forms.proofs.RightLaws.{call_right}
use Rattle.cb_words.specs.Words.{head_of}
use Rattle.cb_expr_forms.proofs.laws.a_call_is_right_where_its_parts_are.Goals as goal

pub returns : goal.returns
returns c = λ s name f args is. call_right s (head_of name) f args (facts_faults s args) (modify_faults s args) is
