use Rattle.cb_agenda_tests.specs.Numbering.{IsOwn}
use Rattle.cb_matches.specs.Changes.{HaveNumbers}
use Rattle.cb_agenda_tests.proofs.tests.matches.numbered.Given as goal

abbrev pub invariant-loop-which : goal.invariant-loop-which
invariant-loop-which l = HaveNumbers IsOwn l.keys.items l.numbers.items
