use Rattle.std.proofs.Common.{◌∙◌, refl}
use Rattle.cb_actions.proofs.ChangeLaws.{anew_inside}
use Rattle.cb_actions.proofs.StepLaws.{anew_follows, anew_known, given_still}
use Rattle.cb_matches.specs.Changes.{HaveNumbers, IsNumber}
use Rattle.cb_actions.proofs.world.World.drop_all_facts.Goals as goal

pub reschedule-requires : goal.reschedule-requires
reschedule-requires g c = λ _.
    let told = c.only_come-told in
    let come : HaveNumbers (IsNumber c.restart.new.self.numbers) told.result.come.items told.result.come_numbers.items = rw (told.ensures.come, told.ensures.come_numbers) c.in_ok-delta.ensures.numbers in
    anew_known _ _ told.ensures.gone told.ensures.gone_numbers come _ c.drop_all.ensures.numbers

pub invariant_of-self-2 : goal.invariant_of-self-2
invariant_of-self-2 g c =
    let told = c.only_come-told in
    let come : HaveNumbers (IsNumber c.restart.new.self.numbers) told.result.come.items told.result.come_numbers.items = rw (told.ensures.come, told.ensures.come_numbers) c.in_ok-delta.ensures.numbers in
    record {
      given = given_still _ _ _ c.restart.ensures.rising c.self.invariant.given;
      step = λ e. anew_follows c.restart.new.self.numbers told.result told.ensures.gone told.ensures.gone_numbers come c.drop_all.new.self.numbers c.reschedule.new.agenda.numbers c.drop_all.ensures.numbers (c.in_ok-done.ensures.filed refl (c.keeps_step-self-inside.ensures e).1);
    }

pub returns : goal.returns
returns g c = anew_inside _ _ c.self.view_is _ _ _ _ _ _ c.only_come-told.ensures.gone (c.only_come-told.ensures.come ∙ c.in_ok-delta.ensures.delta.come) c.in_ok-delta.ensures.memory c.drop_all.ensures.agenda c.in_ok-done.ensures.done
