use Rattle.cb_fit.proofs.ShapeKeys.{selection-key}
use Rattle.cb_fit.proofs.laws.the_key_of_a_selection_is_the_shape.Goals as goal

pub returns : goal.returns
returns c = λ p. selection-key p
