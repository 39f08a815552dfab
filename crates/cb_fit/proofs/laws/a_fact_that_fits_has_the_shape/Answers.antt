use Rattle.cb_fit.proofs.WithoutVariables.{has-shape, shape-kept}
use Rattle.cb_fit.proofs.laws.a_fact_that_fits_has_the_shape.Goals as goal

pub returns-clause-shape : goal.returns-clause-shape
returns-clause-shape c = has-shape

pub returns-clause-cuts : goal.returns-clause-cuts
returns-clause-cuts c = shape-kept
