use Rattle.cb_fit.proofs.ShapeTested.{shape-tested}
use Rattle.cb_fit.proofs.laws.the_shape_can_be_tested.Goals as goal

pub returns : goal.returns
returns c = shape-tested
