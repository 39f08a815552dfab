use Rattle.std.proofs.Common.{subst}
use Rattle.cb_matches.specs.Changes.{IsNumber, Numbers}
use Rattle.cb_agenda_tests.proofs.tests.by_number.ByNumberCalled.set_strategy.Goals as goal

pub invariant_of-self : goal.invariant_of-self
invariant_of-self c k n h = c.self.invariant k n (subst (λ (all : Numbers). IsNumber all k n) c.set_strategy.ensures.numbers h)
