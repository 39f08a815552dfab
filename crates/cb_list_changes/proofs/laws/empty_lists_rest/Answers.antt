use Rattle.cb_list_changes.proofs.Begins.{empty_rest}
use Rattle.cb_list_changes.proofs.laws.empty_lists_rest.Goals as goal

pub returns : goal.returns
returns c = empty_rest
