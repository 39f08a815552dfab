use Rattle.cb_laws.proofs.RetractLaws.{all_gone, ends, fault, fine, values_take}
use Rattle.cb_laws.proofs.retracting.what_is_retracted_is_gone.Goals as goal

pub returns-clause-fine : goal.returns-clause-fine
returns-clause-fine c = fine

pub returns-clause-fault : goal.returns-clause-fault
returns-clause-fault c = fault

pub returns-clause-missing : goal.returns-clause-missing
returns-clause-missing c = ends

pub returns-clause-all : goal.returns-clause-all
returns-clause-all c = all_gone

pub returns-clause-none_comes : goal.returns-clause-none_comes
returns-clause-none_comes c = λ vs s fact ix sound. (values_take vs s).kept sound ix fact

pub returns-clause-sound : goal.returns-clause-sound
returns-clause-sound c = λ vs s sound. (values_take vs s).sound sound
