use Rattle.cb_laws.proofs.ActLaws.{assert_acts, assert_ends, modify_acts, modify_ends, retract_acts, retract_ends}
use Rattle.cb_laws.proofs.acting.a_command_acts_on_the_values_of_its_arguments.Goals as goal

pub returns-clause-assert : goal.returns-clause-assert
returns-clause-assert c = λ shape ts s. assert_acts ts s shape

pub returns-clause-assert_ended : goal.returns-clause-assert_ended
returns-clause-assert_ended c = λ shape ts s. assert_ends ts s shape

pub returns-clause-retract : goal.returns-clause-retract
returns-clause-retract c = retract_acts

pub returns-clause-retract_ended : goal.returns-clause-retract_ended
returns-clause-retract_ended c = retract_ends

pub returns-clause-modify : goal.returns-clause-modify
returns-clause-modify c = λ slots ts s. modify_acts ts s slots

pub returns-clause-modify_ended : goal.returns-clause-modify_ended
returns-clause-modify_ended c = λ slots ts s. modify_ends ts s slots
