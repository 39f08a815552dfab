use Rattle.std.proofs.Common.{◌≡◌, ◌++◌, drop}
use Rattle.cb_fit.proofs.own_fields.add_repeated.Given as goal
use Rattle.cb_fit.specs.Comparisons.{repeated_at}

abbrev pub invariant-loop-name : goal.invariant-loop-name
invariant-loop-name l =
    l.all.items ++ repeated_at l.before l.place (drop l.name-index l.names) ≡ l.fn.all.items ++ repeated_at l.before l.place l.names
