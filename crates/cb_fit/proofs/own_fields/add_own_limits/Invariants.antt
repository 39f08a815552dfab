use Rattle.std.proofs.Common.{◌≡◌, ◌++◌, drop, map}
use Rattle.cb_fit.proofs.own_fields.add_own_limits.Given as goal
use Rattle.cb_fit.specs.Comparisons.{own_limits_at}
use Rattle.cb_fit.specs.Internal.Reading.{limit_of}

abbrev pub invariant-loop-limit : goal.invariant-loop-limit
invariant-loop-limit l =
    l.all.items ++ own_limits_at l.place (map limit_of (drop l.limit-index l.limits))
    ≡ l.fn.all.items ++ own_limits_at l.place (map limit_of l.limits)
