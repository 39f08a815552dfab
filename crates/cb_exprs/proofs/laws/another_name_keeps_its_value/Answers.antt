use Rattle.cb_exprs.proofs.ValueLaws.{value_at_left, value_at_other}
use Rattle.cb_exprs.proofs.laws.another_name_keeps_its_value.Goals as goal

pub returns-clause-set : goal.returns-clause-set
returns-clause-set c = value_at_other

pub returns-clause-unset : goal.returns-clause-unset
returns-clause-unset c = value_at_left
