use Rattle.cb_fit.proofs.Constants.{shape_has}
use Rattle.cb_fit.proofs.laws.a_fact_with_the_shape_has_the_constants.Goals as goal

pub returns : goal.returns
returns c = shape_has
