use Rattle.std.proofs.Common.{◌≡◌, ◌++◌, drop, flat_map}
use Rattle.cb_constraints.specs.Binders.{binders_of}
use Rattle.cb_fit.specs.Internal.Reading.{alternatives_of}
use Rattle.cb_fit.proofs.demands.variables_of.Given as goal

abbrev pub invariant-loop-checks : goal.invariant-loop-checks
invariant-loop-checks l =
    l.all.items ++ flat_map binders_of (alternatives_of (drop l.checks-index l.alternatives)) ≡ flat_map binders_of (alternatives_of l.alternatives)
