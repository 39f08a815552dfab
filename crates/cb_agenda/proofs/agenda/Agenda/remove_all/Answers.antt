use Rattle.std.proofs.Common.{◌≡◌, ℕ, ap, subst, sym}
use Rattle.cb_agenda.proofs.NumberLaws.{was_in}
use Rattle.cb_agenda.specs.Agendas.{NumberedAgenda}
use Rattle.cb_matches.specs.Changes.{HaveNumbers, IsNumber, Numbers}
use Rattle.cb_agenda.proofs.agenda.Agenda.remove_all.Goals as goal

pub remove_keys-requires : goal.remove_keys-requires
remove_keys-requires c = λ by_number.
    subst (λ (all : Numbers). HaveNumbers (λ k n. (m : ℕ) → IsNumber all k m → m ≡ n) c.args.keys.now c.args.numbers.now) (sym (ap (λ (a : NumberedAgenda). a.numbers) c.self.view_is)) (c.requires by_number)

pub returns-clause-numbers : goal.returns-clause-numbers
returns-clause-numbers c = λ k n h.
    let left = c.remove_keys.ensures.numbers k n h in
    (was_in c.self.inside.due.numbers c.args.self.now.numbers (ap (λ (a : NumberedAgenda). a.numbers) c.self.view_is) k n left.0, left.1)
