use Rattle.std.proofs.Common.{Option, subst}
use Rattle.cb_actions.proofs.ChangeLaws.{forgotten_not, forgotten_one}
use Rattle.cb_actions.proofs.StepLaws.{given_still, tied_again, tied_apart, tied_known}
use Rattle.cb_knowledge_base.specs.KnowledgeBase.{RetractTells, Retracts}
use Rattle.cb_matches.specs.declared.delta.Delta.{Delta}
use Rattle.cb_actions.proofs.world.World.forget.Goals as goal

pub invariant_of-self : goal.invariant_of-self
invariant_of-self g c = tied_apart _ _ _ _ (given_still _ _ _ c.retract_one.ensures.rising c.self.invariant.given)

pub returns-in-None : goal.returns-in-None
returns-in-None g c =
    let m = subst (λ (it : Option Delta). Retracts c.self.inside.memory.memory c.args.ix c.retract_one.new.self.memory it) c.in-None.is c.in_ok-retract_one.ensures.retracts in
    forgotten_not _ _ c.self.view_is c.args.ix _ m.0 m.1

pub reschedule-requires : goal.reschedule-requires
reschedule-requires g c =
    let tells = subst (λ (it : Option Delta). RetractTells c.self.inside.memory.numbers c.retract_one.new.self.numbers it) c.in-Some.is c.in_ok-retract_one.ensures.numbers in
    tied_known _ _ _ _ _ _ _ c.self.invariant tells

pub invariant_of-self-in-Some : goal.invariant_of-self-in-Some
invariant_of-self-in-Some g c =
    let tells = subst (λ (it : Option Delta). RetractTells c.self.inside.memory.numbers c.retract_one.new.self.numbers it) c.in-Some.is c.in_ok-retract_one.ensures.numbers in
    tied_again _ _ _ _ _ _ _ c.self.invariant tells _ _ _ _ _ (given_still _ _ _ c.retract_one.ensures.rising c.self.invariant.given) c.in_ok-done-in-Some.ensures.filed c.keeps_step-self-inside.ensures

pub returns-in_ok-done-in-Some : goal.returns-in_ok-done-in-Some
returns-in_ok-done-in-Some g c =
    let m = subst (λ (it : Option Delta). Retracts c.self.inside.memory.memory c.args.ix c.retract_one.new.self.memory it) c.in-Some.is c.in_ok-retract_one.ensures.retracts in
    forgotten_one _ _ c.self.view_is c.args.ix _ _ _ _ m.0 m.1 m.2 c.in_ok-done-in-Some.ensures.done
