use Rattle.cb_eval.proofs.Deciding.{what_is_left_out}
use Rattle.cb_eval.proofs.laws.what_is_left_out_changes_no_value.Goals as goal

pub returns : goal.returns
returns c = what_is_left_out
