use Rattle.std.proofs.Common.{Some, take}
use Rattle.cb_matches.specs.Chains.{In}
use Rattle.cb_group_node.specs.Internal.{GroupHolds, Sets}
use Rattle.cb_group_node.proofs.inside.wait_all.Given as goal

abbrev pub invariant-loop-number : goal.invariant-loop-number
invariant-loop-number l = Sets l.initial.waiting l.waiting (λ n. In n (take l.number-index l.numbers) × (GroupHolds l.positive l.inside n → ⊥)) (Some 0)
