use Rattle.cb_eval.proofs.Deciding.{first_fault}
use Rattle.cb_eval.proofs.laws.the_first_argument_faults_first.Goals as goal

pub returns : goal.returns
returns c = first_fault
