use Rattle.cb_eval.proofs.ArithmeticLaws.{quotient_and_remainder}
use Rattle.cb_eval.proofs.laws.quotient_and_remainder_give_the_dividend.Goals as goal

pub returns : goal.returns
returns c = quotient_and_remainder
