use Rattle.cb_session.proofs.ItemLaws.{executed_begins}
use Rattle.cb_session.proofs.laws.what_an_item_writes_comes_first.Goals as goal

pub returns : goal.returns
returns c = executed_begins
