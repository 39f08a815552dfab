use Rattle.std.proofs.Common.{◌≡◌, ◌≤◌, ◌++◌, ◌∷◌, [], rules}
use Rattle.cb_actions.specs.Runs.{numbered}
use Rattle.cb_actions.specs.Worlds.{World}
use Rattle.cb_actions.proofs.ChangeLaws.{moved_with_rule}
use Rattle.cb_actions.proofs.StepLaws.{given_added, tied_again, tied_known}
use Rattle.cb_rules.specs.Elements.{branches_of}
use Rattle.cb_actions.proofs.world.World.keep_rule.Goals as goal

pub reschedule-requires : goal.reschedule-requires
reschedule-requires g c = tied_known _ _ _ _ _ _ _ c.self.invariant c.in_ok-delta.ensures.numbers

pub invariant_of-self-2 : goal.invariant_of-self-2
invariant_of-self-2 g c =
    let below : c.next_rule.result ≤ c.add_rule.new.self.memory.last_rule = search rules in
    let given = given_added c.self.inside.memory.memory.last_rule c.add_rule.new.self.memory.last_rule c.self.inside.rules c.push.new.self _ c.add_rule.ensures.rising c.self.invariant.given below c.in_ok-push.ensures.ok in
    tied_again _ _ _ _ _ _ _ c.self.invariant c.in_ok-delta.ensures.numbers _ _ _ _ _ given c.in_ok-done.ensures.filed c.keeps_step-self-inside.ensures

pub returns : goal.returns
returns g c =
    let i = c.self.inside in
    let v : World = record { memory = i.memory.memory; agenda = i.agenda.agenda; rules = i.rules; watched = i.watched; templates = i.relations; env = i.env; turns = i.turns; firings = i.firings; is_halted = i.is_halted } in
    let added : c.push.new.self ≡ i.rules ++ numbered v c.args.rule ∷ [] = search rules in
    moved_with_rule _ _ c.self.view_is c.args.rule (branches_of c.args.branches.items) _ _ _ _ _ c.in_ok-delta.ensures.delta c.in_ok-delta.ensures.rule added c.in_ok-done.ensures.done
