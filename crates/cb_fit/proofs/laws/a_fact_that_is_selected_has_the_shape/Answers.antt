use Rattle.cb_fit.proofs.Selected.{selected_has_shape}
use Rattle.cb_fit.proofs.laws.a_fact_that_is_selected_has_the_shape.Goals as goal

pub returns : goal.returns
returns c = selected_has_shape
