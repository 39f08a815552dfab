use Rattle.cb_exprs.proofs.TermLaws.{of_constant, of_variable, of_global, of_call, of_effect, of_if, of_while, of_actions}
use Rattle.cb_exprs.proofs.laws.each_expression_is_its_term.Goals as goal

pub returns-clause-is_constant : goal.returns-clause-is_constant
returns-clause-is_constant c = of_constant

pub returns-clause-is_variable : goal.returns-clause-is_variable
returns-clause-is_variable c = of_variable

pub returns-clause-is_global : goal.returns-clause-is_global
returns-clause-is_global c = of_global

pub returns-clause-is_call : goal.returns-clause-is_call
returns-clause-is_call c = of_call

pub returns-clause-is_effect : goal.returns-clause-is_effect
returns-clause-is_effect c = of_effect

pub returns-clause-is_if : goal.returns-clause-is_if
returns-clause-is_if c = of_if

pub returns-clause-is_while : goal.returns-clause-is_while
returns-clause-is_while c = of_while

pub returns-clause-is_actions : goal.returns-clause-is_actions
returns-clause-is_actions c = of_actions
