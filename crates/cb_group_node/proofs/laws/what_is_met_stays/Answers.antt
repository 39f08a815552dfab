use Rattle.cb_group_node.proofs.Meeting.{met_stays}
use Rattle.cb_group_node.proofs.laws.what_is_met_stays.Goals as goal

pub returns : goal.returns
returns c = met_stays
