use Rattle.cb_matches.proofs.Listing.{all_listed, satisfying}
use Rattle.cb_matches.proofs.laws.the_matches_are_those_that_satisfy_a_rule.Goals as goal

pub returns-clause-listed : goal.returns-clause-listed
returns-clause-listed c = all_listed c.the_ways_are_those_that_fit.ensures.listed c.the_ways_are_those_that_fit.ensures.fitting c.a_way_has_all_that_it_gives.ensures

pub returns-clause-satisfying : goal.returns-clause-satisfying
returns-clause-satisfying c = satisfying c.the_ways_are_those_that_fit.ensures.listed c.the_ways_are_those_that_fit.ensures.fitting c.a_way_has_all_that_it_gives.ensures
