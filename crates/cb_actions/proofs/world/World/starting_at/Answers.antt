use Rattle.std.proofs.Common.{ap, rules}
use Rattle.cb_actions.proofs.StepLaws.{none_due}
use Rattle.cb_agenda.specs.Agendas.{NumberedAgenda}
use Rattle.cb_actions.proofs.world.World.starting_at.Goals as goal

pub invariant_of-result : goal.invariant_of-result
invariant_of-result g c = record { given = search rules; step = λ on. none_due _ _ (ap (λ (a : NumberedAgenda). a.numbers) c.starting_at-2.ensures) }
