use Rattle.std.proofs.Common.{◌∙◌, sym}
use Rattle.cb_agenda_tests.proofs.Numbering.{after_apply, known_come, known_gone}
use Rattle.cb_agenda_tests.proofs.tests.by_number.ByNumberCalled.change.Goals as goal

pub apply-outcome-requires-clause-gone : goal.apply-outcome-requires-clause-gone
apply-outcome-requires-clause-gone c = known_gone c.self.inside.agenda.numbers c.self.invariant c.in_ok-delta.delta.gone.items c.in_ok-delta.delta.gone_numbers.items c.in_ok-delta.ensures.gone

pub apply-outcome-requires-clause-come : goal.apply-outcome-requires-clause-come
apply-outcome-requires-clause-come c =
    known_come c.self.inside.agenda.numbers c.self.invariant c.in_ok-delta.delta.gone.items c.in_ok-delta.delta.come.items c.in_ok-delta.delta.come_numbers.items c.in_ok-delta.ensures.come

pub invariant_of-self-else-failed : goal.invariant_of-self-else-failed
invariant_of-self-else-failed c =
    after_apply c.apply-outcome.result c.self.inside.agenda c.apply-outcome.new.self c.in_ok-delta.delta.gone.items c.in_ok-delta.delta.come.items c.in_ok-delta.delta.come_numbers.items _
    c.apply-outcome.ensures.numbers c.apply-outcome.ensures.exhausted c.apply-outcome.ensures.err (sym c.failed.ensures ∙ c.if-failed.false) c.self.invariant c.in_ok-delta.ensures.come
