use Rattle.std.proofs.Common.{length}
use Rattle.cb_exprs.proofs.frames.+value_in.Given as goal

abbrev pub decreases-value_in : goal.decreases-value_in
decreases-value_in l = length l.bindings.now
