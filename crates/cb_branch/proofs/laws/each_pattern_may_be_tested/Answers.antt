use Rattle.cb_branch.proofs.Kept.{tests_within}
use Rattle.cb_branch.proofs.laws.each_pattern_may_be_tested.Goals as goal
use Rattle.cb_nodes.proofs.Grown.{ways_rise}

pub returns : goal.returns
returns c = tests_within (ways_rise c.the_ways_rise_by_their_cuts.ensures)
