use Rattle.std.proofs.Common.{take}
use Rattle.cb_beta.specs.Internal.{AreLeft}
use Rattle.cb_beta.proofs.filing.leave.Given as goal

abbrev pub invariant-loop-number : goal.invariant-loop-number
invariant-loop-number l = AreLeft l.initial.groups l.groups (take l.number-index l.numbers)
