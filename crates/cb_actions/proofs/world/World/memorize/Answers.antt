use Rattle.std.proofs.Common.{subst}
use Rattle.cb_actions.proofs.ChangeLaws.{memorized_next, memorized_not, memorized_there}
use Rattle.cb_actions.proofs.StepLaws.{given_still, tied_again, tied_apart, tied_known}
use Rattle.cb_knowledge_base.specs.KnowledgeBase.{AssertTells, Asserts}
use Rattle.cb_knowledge_base.specs.declared.asserted.Asserted.{Asserted}
use Rattle.cb_actions.proofs.world.World.memorize.Goals as goal

pub invariant_of-self : goal.invariant_of-self
invariant_of-self g c = tied_apart _ _ _ _ (given_still _ _ _ c.assert_one.ensures.rising c.self.invariant.given)

pub returns-in-There : goal.returns-in-There
returns-in-There g c =
    let m = subst (λ (it : Asserted). Asserts c.self.inside.memory.memory c.args.fact c.assert_one.new.self.memory it) c.in-There.is c.in_ok-ix.ensures.asserts in
    memorized_there _ _ c.self.view_is c.args.fact _ _ m.0 m.1

pub returns-in-NoIndex : goal.returns-in-NoIndex
returns-in-NoIndex g c =
    let m = subst (λ (it : Asserted). Asserts c.self.inside.memory.memory c.args.fact c.assert_one.new.self.memory it) c.in-NoIndex.is c.in_ok-ix.ensures.asserts in
    memorized_not _ _ c.self.view_is c.args.fact _ m.0 m.1 m.2

pub reschedule-requires : goal.reschedule-requires
reschedule-requires g c =
    let tells = subst (λ (it : Asserted). AssertTells c.self.inside.memory.numbers c.assert_one.new.self.numbers it) c.in-Added.is c.in_ok-ix.ensures.numbers in
    tied_known _ _ _ _ _ _ _ c.self.invariant tells

pub invariant_of-self-in-Added : goal.invariant_of-self-in-Added
invariant_of-self-in-Added g c =
    let tells = subst (λ (it : Asserted). AssertTells c.self.inside.memory.numbers c.assert_one.new.self.numbers it) c.in-Added.is c.in_ok-ix.ensures.numbers in
    tied_again _ _ _ _ _ _ _ c.self.invariant tells _ _ _ _ _ (given_still _ _ _ c.assert_one.ensures.rising c.self.invariant.given) c.in_ok-done-in-Added.ensures.filed c.keeps_step-self-inside.ensures

pub returns-in_ok-done-in-Added : goal.returns-in_ok-done-in-Added
returns-in_ok-done-in-Added g c =
    let m = subst (λ (it : Asserted). Asserts c.self.inside.memory.memory c.args.fact c.assert_one.new.self.memory it) c.in-Added.is c.in_ok-ix.ensures.asserts in
    memorized_next _ _ c.self.view_is c.args.fact _ _ _ _ _ m.0 m.1 m.2 m.3 m.4 c.in_ok-done-in-Added.ensures.done
