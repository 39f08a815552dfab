use Rattle.cb_fit.proofs.Wildcards.{takes-all}
use Rattle.cb_fit.proofs.laws.a_wildcard_for_a_segment_takes_any_number.Goals as goal

pub returns : goal.returns
returns c = takes-all
