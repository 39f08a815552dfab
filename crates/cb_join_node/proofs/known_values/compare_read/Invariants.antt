use Rattle.std.proofs.Common.{◌≡◌, drop}
use Rattle.cb_exprs.specs.Bindings.{Bindings}
use Rattle.cb_join_node.specs.KnownValues.{compared_values}
use Rattle.cb_scopes.specs.Compared.{all_compare}
use Rattle.cb_join_node.proofs.known_values.compare_read.Given as goal

abbrev pub invariant-loop-field : goal.invariant-loop-field
invariant-loop-field l =
    (env : Bindings) → l.values ≡ compared_values l.fields env
    → (l.left ≡ compared_values (drop l.field-index l.fields) env) × (all_compare (drop l.field-index l.fields) env l.fact.content ≡ all_compare l.fields env l.fact.content)
