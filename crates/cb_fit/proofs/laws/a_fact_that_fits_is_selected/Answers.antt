use Rattle.cb_fit.proofs.Selected.{none_unselected}
use Rattle.cb_fit.proofs.laws.a_fact_that_fits_is_selected.Goals as goal

pub returns : goal.returns
returns c = none_unselected c.a_pattern_is_decided_by_values.ensures.fits c.no_shape_gives_no_ways.ensures
