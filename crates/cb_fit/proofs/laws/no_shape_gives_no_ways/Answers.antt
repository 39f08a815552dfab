use Rattle.cb_fit.proofs.ByCuts.{no-shape}
use Rattle.cb_fit.proofs.laws.no_shape_gives_no_ways.Goals as goal

pub returns : goal.returns
returns c = no-shape
