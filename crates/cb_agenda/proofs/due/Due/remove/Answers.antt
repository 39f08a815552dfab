use Rattle.std.proofs.Common.{ap}
use Rattle.cb_agenda.proofs.NumberLaws.{known_names, loses_numbers}
use Rattle.cb_agenda.specs.Internal.{NumberedDue}
use Rattle.cb_agenda.proofs.due.Due.remove.Goals as goal

pub remove_from-requires : goal.remove_from-requires
remove_from-requires c = record {
  filed = c.self.invariant.0;
  known = λ by_number. known_names c.self.inside.activations c.args.self.now.numbers (ap (λ (d : NumberedDue). d.numbers) c.self.view_is) c.args.key.now c.args.number (c.requires by_number);
}

pub invariant_of-self : goal.invariant_of-self
invariant_of-self c = (c.remove_from.ensures.filed, c.remove_from.ensures.stamped c.self.inside.last c.self.invariant.1, c.self.invariant.2)

pub returns-clause-numbers : goal.returns-clause-numbers
returns-clause-numbers c =
    loses_numbers c.self.inside.activations c.args.self.now.numbers (ap (λ (d : NumberedDue). d.numbers) c.self.view_is) c.remove_from.new.activations c.args.key.now c.remove_from.ensures.names
