use Rattle.cb_fit.proofs.AllGiven.{all-given}
use Rattle.cb_fit.proofs.laws.a_way_has_all_that_it_gives.Goals as goal

pub returns : goal.returns
returns c = all-given
