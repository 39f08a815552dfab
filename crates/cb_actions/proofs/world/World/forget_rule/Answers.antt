use Rattle.std.proofs.Common.{ap, nat_eq, not}
use Rattle.cb_actions.proofs.StepLaws.{tied_filtered}
use Rattle.cb_agenda.specs.Agendas.{NumberedAgenda}
use Rattle.cb_rules.specs.RuleInfos.{RuleInfo}
use Rattle.cb_actions.proofs.world.World.forget_rule.Goals as goal

pub invariant_of-self : goal.invariant_of-self
invariant_of-self g c =
    tied_filtered (λ (r : RuleInfo). not (nat_eq c.args.id r.id)) _ _ _ _ _ _ _ c.remove.ensures (ap (λ (a : NumberedAgenda). a.numbers) c.forget_rule.ensures) c.self.invariant
