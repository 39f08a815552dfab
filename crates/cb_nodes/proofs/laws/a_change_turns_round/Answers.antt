use Rattle.cb_nodes.proofs.Moves.{swapped}
use Rattle.cb_nodes.proofs.laws.a_change_turns_round.Goals as goal
use Rattle.cb_nodes.specs.Changes.{parts_of_partial}

pub returns : goal.returns
returns c = swapped parts_of_partial
