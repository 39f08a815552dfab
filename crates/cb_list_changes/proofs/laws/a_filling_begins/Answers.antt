use Rattle.cb_list_changes.proofs.Begins.{filling_begins}
use Rattle.cb_list_changes.proofs.laws.a_filling_begins.Goals as goal

pub returns : goal.returns
returns c = filling_begins
