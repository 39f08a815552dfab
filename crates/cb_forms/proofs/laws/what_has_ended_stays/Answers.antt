use Rattle.cb_forms.proofs.ReadingLaws.{whole-grows, items-keep}
use Rattle.cb_forms.proofs.laws.what_has_ended_stays.Goals as goal

pub returns-clause-stays : goal.returns-clause-stays
returns-clause-stays c = items-keep

pub returns-clause-ended : goal.returns-clause-ended
returns-clause-ended c = whole-grows
