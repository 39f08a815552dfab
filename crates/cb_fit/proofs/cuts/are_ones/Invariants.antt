use Rattle.std.proofs.Common.{◌≡◌, drop, nat_eq}
use Rattle.std.specs.List.{list_all}
use Rattle.cb_fit.proofs.cuts.are_ones.Given as goal

abbrev pub invariant-loop-length : goal.invariant-loop-length
invariant-loop-length l = list_all (nat_eq 1) (drop l.length-index l.lengths) ≡ list_all (nat_eq 1) l.lengths
