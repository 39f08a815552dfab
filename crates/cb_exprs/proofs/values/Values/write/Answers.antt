use Rattle.cb_exprs.proofs.Ordered.{ordered_with}
use Rattle.cb_exprs.proofs.Trees.{written_in_order}
use Rattle.cb_exprs.proofs.values.Values.write.Goals as goal

pub invariant_of-self : goal.invariant_of-self
invariant_of-self c = written_in_order c.write.result _ _ _ c.write.ensures.ok c.write.ensures.err c.self.invariant (ordered_with _ c.args.name.now c.args.value c.self.invariant)
