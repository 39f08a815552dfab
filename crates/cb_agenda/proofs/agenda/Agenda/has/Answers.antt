use Rattle.std.proofs.Common.{ap}
use Rattle.cb_agenda.proofs.NumberLaws.{known_by}
use Rattle.cb_agenda.specs.Agendas.{NumberedAgenda}
use Rattle.cb_agenda.proofs.agenda.Agenda.has.Goals as goal

pub has-requires : goal.has-requires
has-requires c = λ _. known_by c.self.inside.due.numbers c.args.self.now.numbers (ap (λ (a : NumberedAgenda). a.numbers) c.self.view_is) c.args.key.now c.args.number c.requires.known
