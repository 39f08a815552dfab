use Rattle.cb_join_node.proofs.Staying.{goes_on_from}
use Rattle.cb_join_node.proofs.laws.a_token_goes_on_from_what_is_there.Goals as goal
use Rattle.cb_token_lists.specs.Turns.{IsThere}

pub returns : goal.returns
returns g c node at m = goes_on_from node at (IsThere m)
