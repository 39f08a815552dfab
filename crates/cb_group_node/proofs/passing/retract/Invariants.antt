use Rattle.std.proofs.Common.{take}
use Rattle.cb_matches.specs.Chains.{In}
use Rattle.cb_group_node.specs.Internal.{GroupHolds}
use Rattle.cb_beta.specs.BetaMemories.{Loses}
use Rattle.cb_group_node.proofs.passing.retract.Given as goal

abbrev pub invariant-loop-number : goal.invariant-loop-number
invariant-loop-number l = Loses l.initial.own l.own (λ t. In t.parent (take l.number-index l.numbers) × (GroupHolds l.positive l.inside t.parent → ⊥))
