use Rattle.cb_actions.proofs.StepLaws.{tied_due}
use Rattle.cb_actions.proofs.world.World.set_strategy.Goals as goal

pub invariant_of-self : goal.invariant_of-self
invariant_of-self g c = tied_due _ _ _ _ _ _ c.set_strategy-old.ensures.numbers c.self.invariant

pub invariant_of-self-2 : goal.invariant_of-self-2
invariant_of-self-2 g c = tied_due _ _ _ _ _ _ c.set_strategy-old.ensures.numbers c.self.invariant
