use Rattle.cb_fit.proofs.CutsInOrder.{rising}
use Rattle.cb_fit.proofs.laws.the_ways_rise_by_their_cuts.Goals as goal

pub returns : goal.returns
returns c = rising
