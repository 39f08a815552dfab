use Rattle.std.proofs.Common.{◌≡◌, ◌++◌, drop}
use Rattle.cb_beta.proofs.given.add_all.Given as goal

abbrev pub invariant-loop-name : goal.invariant-loop-name
invariant-loop-name l = l.bindings.items ++ drop l.name-index l.bound ≡ l.initial.bindings.items ++ l.bound
