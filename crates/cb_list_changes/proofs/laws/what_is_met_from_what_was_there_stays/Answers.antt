use Rattle.cb_list_changes.proofs.Relying.{met_was}
use Rattle.cb_list_changes.proofs.laws.what_is_met_from_what_was_there_stays.Goals as goal

pub returns : goal.returns
returns c = met_was
