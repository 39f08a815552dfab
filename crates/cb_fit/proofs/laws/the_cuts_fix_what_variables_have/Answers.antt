use Rattle.cb_fit.proofs.CutsFix.{fixed}
use Rattle.cb_fit.proofs.laws.the_cuts_fix_what_variables_have.Goals as goal

pub returns : goal.returns
returns c = fixed
