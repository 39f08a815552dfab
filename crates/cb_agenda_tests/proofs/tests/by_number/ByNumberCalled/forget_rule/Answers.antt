use Rattle.std.proofs.Common.{subst}
use Rattle.cb_agenda.specs.Agendas.{NumberedAgenda}
use Rattle.cb_matches.specs.Changes.{IsNumber}
use Rattle.cb_agenda_tests.proofs.tests.by_number.ByNumberCalled.forget_rule.Goals as goal

pub invariant_of-self : goal.invariant_of-self
invariant_of-self c k n h = c.self.invariant k n (subst (λ (a : NumberedAgenda). IsNumber a.numbers k n) c.forget_rule.ensures h)
