use Rattle.cb_constraints.proofs.HoldingLaws.{holds-may}
use Rattle.cb_constraints.proofs.laws.what_holds_may_hold.Goals as goal

pub returns : goal.returns
returns c = holds-may
