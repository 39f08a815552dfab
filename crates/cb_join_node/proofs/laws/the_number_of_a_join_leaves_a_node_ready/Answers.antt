use Rattle.cb_join_node.proofs.Staying.{ready_with_join}
use Rattle.cb_join_node.proofs.laws.the_number_of_a_join_leaves_a_node_ready.Goals as goal

pub returns : goal.returns
returns g c node join at = ready_with_join node join at (λ n. ⊥)
