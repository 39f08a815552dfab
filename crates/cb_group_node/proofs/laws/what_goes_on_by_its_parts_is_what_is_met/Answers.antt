use Rattle.cb_group_node.proofs.Meeting.{begins_met}
use Rattle.cb_group_node.proofs.laws.what_goes_on_by_its_parts_is_what_is_met.Goals as goal

pub returns : goal.returns
returns c = begins_met
