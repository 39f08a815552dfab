use Rattle.cb_alpha_network.proofs.Filled.{IsFilled}
use Rattle.cb_alpha_network.proofs.filling.fill.Given as goal

abbrev pub invariant-loop-index : goal.invariant-loop-index
invariant-loop-index g l = IsFilled l.pattern l.facts l.index-iterator l.memory
