use Rattle.std.proofs.Common.{◌≡◌, length, take}
use Rattle.cb_fit.proofs.short_lengths.ShortLengths.new.Given as goal

abbrev pub invariant-loop-at : goal.invariant-loop-at
invariant-loop-at l = (length l.each ≡ 7) × (take l.at l.each ≡ take l.at l.lengths)
