use Rattle.std.proofs.Common.{◌≡◌, ◌++◌, drop, flat_map, map}
use Rattle.cb_constraints.specs.Binders.{constraints_in}
use Rattle.cb_constraints.specs.Bound.{given, newly_bound}
use Rattle.cb_constraints.specs.Internal.Known.{bindings_after}
use Rattle.cb_constraints.specs.Internal.Values.{values}
use Rattle.cb_constraints.proofs.given.newly_bound.Given as goal

abbrev pub invariant-loop-name : goal.invariant-loop-name
invariant-loop-name g l =
    l.bound.items ++ flat_map (given (g.L.Lookup.bindings l.before) (bindings_after (constraints_in l.body) (values l.took) (g.L.Lookup.bindings l.before))) (map (λ e. e.0) (drop l.name-index l.variables))
    ≡ newly_bound l.body (g.L.Lookup.bindings l.before) (bindings_after (constraints_in l.body) (values l.took) (g.L.Lookup.bindings l.before))
