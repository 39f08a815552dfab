use Rattle.std.proofs.Common.{take}
use Rattle.cb_lookup_node.specs.Internal.{AreReplaced, HasWitness}
use Rattle.cb_lookup_node.proofs.witnesses.Witnesses.give.Given as goal

abbrev pub invariant-loop-number : goal.invariant-loop-number
invariant-loop-number l = AreReplaced l.initial.self l.self (take l.number-index l.numbers) (HasWitness l.witness)
