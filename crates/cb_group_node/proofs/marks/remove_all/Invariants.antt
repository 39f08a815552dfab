use Rattle.std.proofs.Common.{None, take}
use Rattle.cb_matches.specs.Chains.{In}
use Rattle.cb_group_node.specs.Internal.{Sets}
use Rattle.cb_group_node.proofs.marks.remove_all.Given as goal

abbrev pub invariant-loop-number : goal.invariant-loop-number
invariant-loop-number l = Sets l.initial.groups l.groups (λ n. In n (take l.number-index l.numbers)) None
