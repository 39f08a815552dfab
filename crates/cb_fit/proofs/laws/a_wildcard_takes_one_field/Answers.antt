use Rattle.cb_fit.proofs.Wildcards.{takes-no-other, takes-one}
use Rattle.cb_fit.proofs.laws.a_wildcard_takes_one_field.Goals as goal

pub returns-clause-one : goal.returns-clause-one
returns-clause-one c = takes-one

pub returns-clause-no_other : goal.returns-clause-no_other
returns-clause-no_other c = takes-no-other
