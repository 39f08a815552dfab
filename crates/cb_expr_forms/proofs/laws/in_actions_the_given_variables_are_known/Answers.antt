use Rattle.cb_expr_forms.proofs.SideLaws.{known_where}
use Rattle.cb_expr_forms.proofs.laws.in_actions_the_given_variables_are_known.Goals as goal

pub returns-clause-single : goal.returns-clause-single
returns-clause-single c = λ valued given globals templates name. known_where given name

pub returns-clause-multi : goal.returns-clause-multi
returns-clause-multi c = λ valued given globals templates name. known_where given name
