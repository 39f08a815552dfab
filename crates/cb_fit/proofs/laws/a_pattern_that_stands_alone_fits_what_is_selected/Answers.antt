use Rattle.cb_fit.proofs.Selected.{alone_fits}
use Rattle.cb_fit.proofs.laws.a_pattern_that_stands_alone_fits_what_is_selected.Goals as goal

pub returns : goal.returns
returns c = alone_fits c.a_fact_that_is_selected_has_the_shape.ensures c.a_pattern_that_stands_alone_is_its_shape.ensures c.no_shape_gives_no_ways.ensures
