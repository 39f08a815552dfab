use Rattle.std.proofs.Common.{◌≡◌, drop}
use Rattle.cb_alpha.proofs.ValuesFound.{with_found}
use Rattle.cb_alpha.specs.JoinValues.{field_values}
use Rattle.cb_alpha.proofs.fact_values.values_of_many.Given as goal

abbrev pub invariant-loop-field : goal.invariant-loop-field
invariant-loop-field l = with_found l.values.items (field_values (drop l.field-index l.fields) l.fact.content) ≡ field_values l.fields l.fact.content
