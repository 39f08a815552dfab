use Rattle.cb_exprs.proofs.Ordered.{ordered_none}
use Rattle.cb_exprs.proofs.values.Values.new.Goals as goal

pub invariant_of-result : goal.invariant_of-result
invariant_of-result c = ordered_none
