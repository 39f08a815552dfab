use Rattle.cb_branch.proofs.Kept.{facts_over}
use Rattle.cb_branch.proofs.laws.what_is_kept_stays.Goals as goal

pub returns : goal.returns
returns g c = facts_over
