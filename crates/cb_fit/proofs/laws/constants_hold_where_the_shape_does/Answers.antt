use Rattle.cb_fit.proofs.LooseDemands.{holds-loosely}
use Rattle.cb_fit.proofs.laws.constants_hold_where_the_shape_does.Goals as goal

pub returns : goal.returns
returns c = holds-loosely
