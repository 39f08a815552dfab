use Rattle.cb_nodes.proofs.Moves.{none_moves}
use Rattle.cb_nodes.proofs.laws.what_stays_moves_nothing.Goals as goal
use Rattle.cb_nodes.specs.Changes.{parts_of_partial}

pub returns : goal.returns
returns c = none_moves parts_of_partial
