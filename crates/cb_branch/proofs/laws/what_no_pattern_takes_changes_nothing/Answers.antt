use Rattle.cb_branch.proofs.Kept.{untaken_matches, untaken_over}
use Rattle.cb_branch.proofs.laws.what_no_pattern_takes_changes_nothing.Goals as goal
use Rattle.cb_nodes.proofs.Grown.{ways_rise}

pub returns-clause-over : goal.returns-clause-over
returns-clause-over g c facts fs fs' f b rising rising' differ none over = untaken_over c.a_fact_that_fits_is_selected.ensures facts fs fs' f b differ none over

pub returns-clause-matches : goal.returns-clause-matches
returns-clause-matches g c facts fs fs' f b rising rising' differ none over =
    untaken_matches c.a_fact_that_fits_is_selected.ensures facts fs fs' f b differ none over (ways_rise c.the_ways_rise_by_their_cuts.ensures) rising rising'
