use Rattle.cb_flat.proofs.Last.{nothing_of_nothing}
use Rattle.cb_flat.proofs.laws.nothing_comes_of_nothing.Goals as goal

pub returns : goal.returns
returns c = nothing_of_nothing
