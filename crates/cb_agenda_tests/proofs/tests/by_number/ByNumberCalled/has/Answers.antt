use Rattle.std.proofs.Common.{◌∙◌, sym}
use Rattle.cb_agenda_tests.proofs.tests.by_number.ByNumberCalled.has.Goals as goal

pub has-requires : goal.has-requires
has-requires c = record { known = λ m h. c.self.invariant c.key-key.result m h ∙ sym c.number_of.ensures }
