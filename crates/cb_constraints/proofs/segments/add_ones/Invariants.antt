use Rattle.std.proofs.Common.{◌≡◌, ◌++◌, replicate}
use Rattle.cb_constraints.proofs.segments.add_ones.Given as goal

abbrev pub invariant-loop : goal.invariant-loop
invariant-loop l = l.all.items ≡ l.fn.all.items ++ replicate l.counter 1
