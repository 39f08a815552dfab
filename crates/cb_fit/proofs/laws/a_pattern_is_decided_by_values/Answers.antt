use Rattle.cb_fit.proofs.Decided.{fits_so, fits_where, loose_cuts}
use Rattle.cb_fit.proofs.laws.a_pattern_is_decided_by_values.Goals as goal

pub returns-clause-fits : goal.returns-clause-fits
returns-clause-fits c = fits_where (record {
  listed = c.the_ways_are_those_that_fit.ensures.listed;
  fitting = c.the_ways_are_those_that_fit.ensures.fitting;
  rising = c.the_ways_rise_by_their_cuts.ensures;
  shape = c.a_fact_that_fits_has_the_shape.ensures.shape;
  tested = c.the_shape_can_be_tested.ensures;
  loosely = c.constants_hold_where_the_shape_does.ensures;
  agree = c.a_fact_that_fits_has_the_values_of_variables.ensures;
})

pub returns-clause-way : goal.returns-clause-way
returns-clause-way c = fits_so (record {
  listed = c.the_ways_are_those_that_fit.ensures.listed;
  fitting = c.the_ways_are_those_that_fit.ensures.fitting;
  rising = c.the_ways_rise_by_their_cuts.ensures;
  shape = c.a_fact_that_fits_has_the_shape.ensures.shape;
  tested = c.the_shape_can_be_tested.ensures;
  loosely = c.constants_hold_where_the_shape_does.ensures;
  agree = c.a_fact_that_fits_has_the_values_of_variables.ensures;
})

pub returns-clause-cuts : goal.returns-clause-cuts
returns-clause-cuts c p f before any is w i = loose_cuts (record {
  listed = c.the_ways_are_those_that_fit.ensures.listed;
  fitting = c.the_ways_are_those_that_fit.ensures.fitting;
  rising = c.the_ways_rise_by_their_cuts.ensures;
  shape = c.a_fact_that_fits_has_the_shape.ensures.shape;
  tested = c.the_shape_can_be_tested.ensures;
  loosely = c.constants_hold_where_the_shape_does.ensures;
  agree = c.a_fact_that_fits_has_the_values_of_variables.ensures;
}) p f before is any w i
