use Rattle.cb_fit.proofs.WithoutVariables.{shape-gives}
use Rattle.cb_fit.proofs.laws.the_shape_gives_no_values.Goals as goal

pub returns : goal.returns
returns c = shape-gives
