use Rattle.std.proofs.Common.{◌≡◌, ◌++◌, drop, map}
use Rattle.cb_fit.proofs.decision.add_compared.Given as goal
use Rattle.cb_fit.specs.Comparisons.{compared_at, with_others}
use Rattle.cb_fit.specs.Internal.Reading.{compared_of}

abbrev pub invariant-loop-compared : goal.invariant-loop-compared
invariant-loop-compared l =
    l.all.items ++ compared_at l.place (with_others l.before (map compared_of (drop l.compared-index l.comparisons)))
    ≡ l.fn.all.items ++ compared_at l.place (with_others l.before (map compared_of l.comparisons))
