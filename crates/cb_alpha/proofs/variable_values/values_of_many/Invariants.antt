use Rattle.std.proofs.Common.{◌≡◌, drop}
use Rattle.cb_alpha.proofs.ValuesFound.{with_found}
use Rattle.cb_alpha.specs.JoinValues.{variable_values}
use Rattle.cb_alpha.proofs.variable_values.values_of_many.Given as goal

abbrev pub invariant-loop-field : goal.invariant-loop-field
invariant-loop-field g l = with_found l.values.items (variable_values (drop l.field-index l.fields) (g.L.Lookup.bindings l.known)) ≡ variable_values l.fields (g.L.Lookup.bindings l.known)
