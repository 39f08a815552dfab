use Rattle.cb_actions.proofs.StepLaws.{given_still, none_due}
use Rattle.cb_actions.proofs.world.World.drop_all.Goals as goal

pub invariant_of-self : goal.invariant_of-self
invariant_of-self g c = record { given = given_still _ _ _ c.clear.ensures.rising c.self.invariant.given; step = λ on. none_due _ _ c.drop_all.ensures.numbers }
