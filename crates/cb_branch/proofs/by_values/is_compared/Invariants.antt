use Rattle.std.proofs.Common.{◌≡◌, drop}
use Rattle.std.specs.List.{list_any}
use Rattle.std.specs.Str.{bytes_eq}
use Rattle.cb_fit.specs.declared.comparison.ComparedField.{ComparedField}
use Rattle.cb_branch.proofs.by_values.is_compared.Given as goal

abbrev pub invariant-loop-field : goal.invariant-loop-field
invariant-loop-field l =
    list_any (λ (c : ComparedField). bytes_eq l.name c.variable) (drop l.field-index l.fields) ≡ list_any (λ (c : ComparedField). bytes_eq l.name c.variable) l.fields
