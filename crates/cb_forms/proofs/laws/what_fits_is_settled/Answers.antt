use Rattle.cb_forms.proofs.FittingLaws.{fitting-kept, fitting-items, fitting-whole, whole-fitting}
use Rattle.cb_forms.proofs.laws.what_fits_is_settled.Goals as goal

pub returns-clause-settled : goal.returns-clause-settled
returns-clause-settled c = fitting-kept

pub returns-clause-all : goal.returns-clause-all
returns-clause-all c = fitting-items

pub returns-clause-ended : goal.returns-clause-ended
returns-clause-ended c = λ limit p r fits. let begins = whole-fitting limit p r fits in (begins.more, begins.is)

pub returns-clause-cut_off : goal.returns-clause-cut_off
returns-clause-cut_off c = fitting-whole
