use Rattle.cb_fit.proofs.Having.{way_has, way_step}
use Rattle.cb_fit.proofs.laws.a_way_gives_values_to_the_bound_names.Goals as goal

pub returns-clause-have : goal.returns-clause-have
returns-clause-have c = way_has c.the_ways_are_those_that_fit.ensures.fitting c.a_way_has_all_that_it_gives.ensures

pub returns-clause-keep : goal.returns-clause-keep
returns-clause-keep c p f before w i = (way_step c.the_ways_are_those_that_fit.ensures.fitting c.a_way_has_all_that_it_gives.ensures p f before w i).0
