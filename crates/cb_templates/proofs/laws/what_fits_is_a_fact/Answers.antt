use Rattle.cb_templates.proofs.FitLaws.{fits_built}
use Rattle.cb_templates.proofs.OnlyFitLaws.{built_fits}
use Rattle.cb_templates.proofs.laws.what_fits_is_a_fact.Goals as goal

pub returns-clause-fits : goal.returns-clause-fits
returns-clause-fits c = fits_built

pub returns-clause-only : goal.returns-clause-only
returns-clause-only c = built_fits
