use Rattle.cb_list_changes.proofs.Rooted.{descends}
use Rattle.cb_list_changes.proofs.laws.what_can_be_read_goes_on_from_what_can_be_read.Goals as goal

pub returns : goal.returns
returns c = λ sources lists from inner i before within rooted. descends sources lists rooted from inner i before within
