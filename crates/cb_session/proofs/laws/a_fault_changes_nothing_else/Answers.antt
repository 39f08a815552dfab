use Rattle.cb_session.proofs.FaultLaws.{fault_refused, fault_of_globals, fault_keeping, template_is_defined}
use Rattle.cb_session.proofs.laws.a_fault_changes_nothing_else.Goals as goal

pub returns-clause-refused : goal.returns-clause-refused
returns-clause-refused c = λ s r fault is. fault_refused s r fault is

pub returns-clause-globals : goal.returns-clause-globals
returns-clause-globals c = λ s r fault gs is ends. fault_of_globals s r fault gs is ends

pub returns-clause-kept : goal.returns-clause-kept
returns-clause-kept c = λ s r fault ends. fault_keeping s r fault ends

pub returns-clause-template : goal.returns-clause-template
returns-clause-template c = λ s r fault template is ends. template_is_defined s r fault template is ends
