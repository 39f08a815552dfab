use Rattle.std.proofs.Common.{option_copied}
use Rattle.cb_alpha.specs.Internal.Numbered.{AreBest, IsAhead}
use Rattle.cb_alpha.proofs.all_buckets.best_of_all.Given as goal

abbrev pub invariant-loop-key : goal.invariant-loop-key
invariant-loop-key l = AreBest l.wanted (IsAhead l.buckets.slots l.key) l.low l.high (option_copied l.best)
