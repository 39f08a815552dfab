use Rattle.std.proofs.Common.{◌≡◌}
use Rattle.cb_alpha.proofs.join_index.find_join.Given as goal

abbrev pub invariant-loop-join : goal.invariant-loop-join
invariant-loop-join l = l.at ≡ l.join-index
