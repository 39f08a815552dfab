use Rattle.cb_exprs.proofs.ValueLaws.{value_at_set}
use Rattle.cb_exprs.proofs.laws.what_is_set_is_what_is_got.Goals as goal

pub returns : goal.returns
returns c = value_at_set
