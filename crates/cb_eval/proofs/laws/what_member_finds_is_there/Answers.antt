use Rattle.cb_eval.proofs.FieldLaws.{found_is_there}
use Rattle.cb_eval.proofs.laws.what_member_finds_is_there.Goals as goal

pub returns : goal.returns
returns c = found_is_there
