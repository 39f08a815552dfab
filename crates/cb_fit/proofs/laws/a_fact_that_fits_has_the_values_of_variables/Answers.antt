use Rattle.cb_fit.proofs.Joined.{fits_have}
use Rattle.cb_fit.proofs.laws.a_fact_that_fits_has_the_values_of_variables.Goals as goal

pub returns : goal.returns
returns c = fits_have
