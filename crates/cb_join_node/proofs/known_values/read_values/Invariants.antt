use Rattle.std.proofs.Common.{◌≡◌, ◌++◌, drop}
use Rattle.cb_join_node.specs.KnownValues.{compared_values}
use Rattle.cb_join_node.proofs.known_values.read_values.Given as goal

abbrev pub invariant-loop-field : goal.invariant-loop-field
invariant-loop-field g l =
    l.values.items ++ compared_values (drop l.field-index l.fields) (g.L.Lookup.bindings l.known) ≡ compared_values l.fields (g.L.Lookup.bindings l.known)
