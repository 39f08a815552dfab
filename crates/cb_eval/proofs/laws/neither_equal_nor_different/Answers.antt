use Rattle.cb_eval.proofs.ComparisonLaws.{neither}
use Rattle.cb_eval.proofs.laws.neither_equal_nor_different.Goals as goal

pub returns : goal.returns
returns c = neither
