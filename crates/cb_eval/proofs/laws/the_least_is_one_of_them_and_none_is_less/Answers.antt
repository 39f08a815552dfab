use Rattle.cb_eval.proofs.LeastLaws.{least_is_least}
use Rattle.cb_eval.proofs.laws.the_least_is_one_of_them_and_none_is_less.Goals as goal

pub returns : goal.returns
returns c = least_is_least
