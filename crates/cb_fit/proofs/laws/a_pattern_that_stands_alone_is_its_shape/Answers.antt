use Rattle.cb_fit.proofs.StandsAlone.{shape-is}
use Rattle.cb_fit.proofs.laws.a_pattern_that_stands_alone_is_its_shape.Goals as goal

pub returns : goal.returns
returns c = shape-is
