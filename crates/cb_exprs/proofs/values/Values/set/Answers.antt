use Rattle.std.proofs.Common.{subst, sym}
use Rattle.cb_exprs.specs.Internal.Trees.{IsOrdered}
use Rattle.cb_exprs.proofs.Ordered.{ordered_with}
use Rattle.cb_exprs.proofs.values.Values.set.Goals as goal

pub invariant_of-self : goal.invariant_of-self
invariant_of-self c = subst IsOrdered (sym (c.in_ok-by_name.ensures c.self.invariant)) (ordered_with _ _ _ c.self.invariant)
