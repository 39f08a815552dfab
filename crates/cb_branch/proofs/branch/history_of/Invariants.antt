use Rattle.std.proofs.Common.{◌≡◌, ◌++◌, drop}
use Rattle.cb_branch.proofs.branch.history_of.Given as goal

abbrev pub invariant-loop-element : goal.invariant-loop-element
invariant-loop-element g l = l.elements.items ++ drop l.element-index l.branch ≡ l.branch
