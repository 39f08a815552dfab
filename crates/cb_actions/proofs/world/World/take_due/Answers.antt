use Rattle.cb_actions.proofs.world.World.take_due.Goals as goal

pub invariant_of-self : goal.invariant_of-self
invariant_of-self g c = record { given = c.self.invariant.given; step = λ on k n is. c.self.invariant.step on k n (c.pop.ensures.numbers k n is) }
