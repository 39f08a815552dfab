use Rattle.cb_fit.proofs.Related.{fitting, listed}
use Rattle.cb_fit.proofs.laws.the_ways_are_those_that_fit.Goals as goal

pub returns-clause-listed : goal.returns-clause-listed
returns-clause-listed c = listed

pub returns-clause-fitting : goal.returns-clause-fitting
returns-clause-fitting c = fitting
