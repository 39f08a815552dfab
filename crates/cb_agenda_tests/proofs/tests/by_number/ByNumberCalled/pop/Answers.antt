use Rattle.cb_agenda_tests.proofs.tests.by_number.ByNumberCalled.pop.Goals as goal

pub invariant_of-self : goal.invariant_of-self
invariant_of-self c k n h = c.self.invariant k n (c.pop.ensures.numbers k n h)
