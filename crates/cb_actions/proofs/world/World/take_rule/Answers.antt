use Rattle.cb_actions.proofs.ChangeLaws.{moved_inside}
use Rattle.cb_actions.proofs.StepLaws.{given_still, tied_again, tied_apart, tied_known}
use Rattle.cb_knowledge_base.specs.KnowledgeBase.{without_one_rule}
use Rattle.cb_actions.proofs.world.World.take_rule.Goals as goal

pub invariant_of-self : goal.invariant_of-self
invariant_of-self g c = tied_apart _ _ _ _ (given_still _ _ _ c.drop_rule.ensures.rising c.self.invariant.given)

pub reschedule-requires : goal.reschedule-requires
reschedule-requires g c = tied_known _ _ _ _ _ _ _ c.self.invariant c.in_ok-delta.ensures.numbers

pub invariant_of-self-2 : goal.invariant_of-self-2
invariant_of-self-2 g c =
    tied_again _ _ _ _ _ _ _ c.self.invariant c.in_ok-delta.ensures.numbers _ _ _ _ _ (given_still _ _ _ c.drop_rule.ensures.rising c.self.invariant.given) c.in_ok-done.ensures.filed c.keeps_step-self-inside.ensures

pub returns-clause-moved : goal.returns-clause-moved
returns-clause-moved g c = moved_inside _ _ c.self.view_is (without_one_rule c.args.id) _ _ _ _ c.in_ok-delta.ensures.delta c.in_ok-delta.ensures.rule c.in_ok-done.ensures.done
