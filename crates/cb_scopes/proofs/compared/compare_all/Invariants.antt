use Rattle.std.proofs.Common.{◌≡◌, drop}
use Rattle.cb_scopes.specs.Compared.{all_compare}
use Rattle.cb_scopes.proofs.compared.compare_all.Given as goal

abbrev pub invariant-loop-field : goal.invariant-loop-field
invariant-loop-field g l = all_compare (drop l.field-index l.fields) (g.L.Lookup.bindings l.known) l.fact.content ≡ all_compare l.fields (g.L.Lookup.bindings l.known) l.fact.content
