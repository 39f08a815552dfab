use Rattle.cb_fit.proofs.ShapeKeys.{one-shape}
use Rattle.cb_fit.proofs.laws.patterns_of_one_shape_are_equal_without_variables.Goals as goal

pub returns : goal.returns
returns c = one-shape
