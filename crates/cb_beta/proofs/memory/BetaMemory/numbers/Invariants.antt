use Rattle.cb_beta.specs.Internal.{AreLiveBelow}
use Rattle.cb_beta.proofs.memory.BetaMemory.numbers.Given as goal

abbrev pub invariant-loop-number : goal.invariant-loop-number
invariant-loop-number l = AreLiveBelow l.self l.number l.all.items
