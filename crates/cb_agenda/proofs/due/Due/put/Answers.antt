use Rattle.std.proofs.Common.{ap}
use Rattle.cb_agenda.proofs.NumberLaws.{gets_numbers, known_names}
use Rattle.cb_agenda.specs.Internal.{NumberedDue}
use Rattle.cb_agenda.proofs.due.Due.put.Goals as goal

pub invariant_of-self : goal.invariant_of-self
invariant_of-self c = (c.put_in.ensures.filed, c.in_err-put_in.ensures.err c.self.inside.last c.self.invariant.1, c.self.invariant.2)

pub put_in-requires-clause-known : goal.put_in-requires-clause-known
put_in-requires-clause-known c = λ by_number.
    known_names c.self.inside.activations c.args.self.now.numbers (ap (λ (d : NumberedDue). d.numbers) c.self.view_is) c.args.key.now c.args.number (c.requires.known by_number)

pub returns-clause-numbers : goal.returns-clause-numbers
returns-clause-numbers c =
    gets_numbers c.self.inside.activations c.args.self.now.numbers (ap (λ (d : NumberedDue). d.numbers) c.self.view_is) c.put_in.new.activations c.args.key.now c.args.number c.in_ok-put_in.ensures.names
