use Rattle.cb_list_changes.proofs.Begins.{change_begins}
use Rattle.cb_list_changes.proofs.laws.a_change_of_facts_begins.Goals as goal

pub returns : goal.returns
returns c = change_begins
