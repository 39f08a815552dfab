use Rattle.std.proofs.Common.{take}
use Rattle.cb_beta.specs.BetaMemories.{Loses}
use Rattle.cb_beta.proofs.memory.BetaMemory.remove_all_children.Given as goal
use Rattle.cb_matches.specs.Chains.{In}

abbrev pub invariant-loop-parent : goal.invariant-loop-parent
invariant-loop-parent l = Loses l.initial.self l.self (λ t. In t.parent (take l.parent-index l.parents))
