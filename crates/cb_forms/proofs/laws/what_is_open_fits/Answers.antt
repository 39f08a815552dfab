use Rattle.cb_forms.proofs.OpenPartLaws.{open-no_gap}
use Rattle.cb_forms.proofs.ReadingLaws.{rest-fits, rest-after}
use Rattle.cb_forms.proofs.laws.what_is_open_fits.Goals as goal

pub returns-clause-fits : goal.returns-clause-fits
returns-clause-fits c = rest-fits

pub returns-clause-after : goal.returns-clause-after
returns-clause-after c = rest-after

pub returns-clause-no_gap : goal.returns-clause-no_gap
returns-clause-no_gap c = open-no_gap
