use Rattle.cb_laws.proofs.AgendaLaws.{changed_proper, due_changed, due_moved, others_as_before, popped_proper, taken_not_due}
use Rattle.cb_laws.proofs.ScriptLaws.{script_proper, so_far_proper}
use Rattle.cb_laws.proofs.firing.a_rule_fires_once_for_one_match.Goals as goal

pub returns-clause-taken_out : goal.returns-clause-taken_out
returns-clause-taken_out c = taken_not_due

pub returns-clause-others : goal.returns-clause-others
returns-clause-others c = λ a b k other p. others_as_before a b k p other

pub returns-clause-change : goal.returns-clause-change
returns-clause-change c = due_moved

pub returns-clause-changed : goal.returns-clause-changed
returns-clause-changed c = due_changed

pub returns-clause-proper_taken : goal.returns-clause-proper_taken
returns-clause-proper_taken c = popped_proper

pub returns-clause-proper_changed : goal.returns-clause-proper_changed
returns-clause-proper_changed c = changed_proper

pub returns-clause-so_far : goal.returns-clause-so_far
returns-clause-so_far c = so_far_proper

pub returns-clause-whole : goal.returns-clause-whole
returns-clause-whole c = script_proper
