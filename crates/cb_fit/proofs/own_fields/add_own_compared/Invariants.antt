use Rattle.std.proofs.Common.{◌≡◌, ◌++◌, drop, map}
use Rattle.cb_fit.proofs.own_fields.add_own_compared.Given as goal
use Rattle.cb_fit.specs.Comparisons.{own_compared_at}
use Rattle.cb_fit.specs.Internal.Reading.{compared_of}

abbrev pub invariant-loop-compared : goal.invariant-loop-compared
invariant-loop-compared l =
    l.all.items ++ own_compared_at l.before l.place (map compared_of (drop l.compared-index l.comparisons))
    ≡ l.fn.all.items ++ own_compared_at l.before l.place (map compared_of l.comparisons)
