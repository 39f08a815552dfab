use Rattle.std.proofs.Common.{◌≡◌, ◌++◌, drop}
use Rattle.cb_fit.proofs.short_lengths.ShortLengths.to_vec.Given as goal

abbrev pub invariant-loop-length : goal.invariant-loop-length
invariant-loop-length l = l.lengths.items ++ drop l.length-index l.length-items ≡ l.length-items
