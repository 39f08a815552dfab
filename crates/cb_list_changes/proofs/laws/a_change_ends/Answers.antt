use Rattle.cb_list_changes.proofs.Ends.{all_rest}
use Rattle.cb_list_changes.proofs.laws.a_change_ends.Goals as goal

pub returns : goal.returns
returns c = all_rest
