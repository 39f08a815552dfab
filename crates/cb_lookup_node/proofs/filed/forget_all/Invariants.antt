use Rattle.std.proofs.Common.{take}
use Rattle.cb_lookup_node.specs.Internal.{AreForgotten}
use Rattle.cb_lookup_node.proofs.filed.forget_all.Given as goal

abbrev pub invariant-loop-number : goal.invariant-loop-number
invariant-loop-number l = AreForgotten l.initial.partials l.partials (take l.number-index l.numbers)
