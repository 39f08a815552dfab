use Rattle.cb_session.proofs.OneOpen.{open_is_one}
use Rattle.cb_session.proofs.OpenLaws.{what_fits, what_is_too_long}
use Rattle.cb_session.proofs.laws.what_is_not_carried_out_is_open.Goals as goal

pub returns-clause-fits : goal.returns-clause-fits
returns-clause-fits c = what_fits

pub returns-clause-too_long : goal.returns-clause-too_long
returns-clause-too_long c = what_is_too_long

pub returns-clause-one : goal.returns-clause-one
returns-clause-one c = open_is_one
