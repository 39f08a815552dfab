use Rattle.cb_fit.proofs.ByCuts.{same-way}
use Rattle.cb_fit.proofs.laws.ways_with_the_same_cuts_are_the_same.Goals as goal

pub returns : goal.returns
returns c = same-way
