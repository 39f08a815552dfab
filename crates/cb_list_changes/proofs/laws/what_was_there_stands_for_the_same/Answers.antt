use Rattle.cb_list_changes.proofs.Relying.{alike_was}
use Rattle.cb_list_changes.proofs.laws.what_was_there_stands_for_the_same.Goals as goal

pub returns : goal.returns
returns c = alike_was
