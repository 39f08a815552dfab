use Rattle.std.proofs.Common.{ap}
use Rattle.cb_agenda.proofs.NumberLaws.{keeps_numbers}
use Rattle.cb_agenda.specs.Internal.{NumberedDue}
use Rattle.cb_agenda.proofs.due.Due.pop.Goals as goal

pub invariant_of-self : goal.invariant_of-self
invariant_of-self c = (c.pop_current.ensures.filed, c.pop_current.ensures.stamped c.self.inside.last c.self.invariant.1, c.self.invariant.2)

pub returns-clause-numbers : goal.returns-clause-numbers
returns-clause-numbers c =
    keeps_numbers c.self.inside.activations c.args.self.now.numbers (ap (λ (d : NumberedDue). d.numbers) c.self.view_is) c.pop_current.new.activations c.pop_current.ensures.names
