-- What the fields of a fact that are compared with variables come to.
use Rattle.std.specs.Prelude.{Bool, false, List, Option, Some, None}
use Rattle.std.specs.List.{list_all}
use Rattle.cb_exprs.specs.Bindings.{Bindings, value_at}
use Rattle.cb_facts.specs.Facts.{FactContent}
use Rattle.cb_facts.specs.declared.value.Value.{Value}
use Rattle.cb_fit.specs.Comparisons.{compares}
use Rattle.cb_fit.specs.FieldPlaces.{field_value}
use Rattle.cb_fit.specs.declared.comparison.ComparedField.{ComparedField}
use Rattle.cb_fit.specs.declared.comparison.Comparison.{Comparison}

-- both are there, and the first is compared so with the second
abbrev pub both_compare : Comparison → Option Value → Option Value → Bool
both_compare c (Some v) (Some w) = compares c v w
both_compare c (Some v) None = false
both_compare c None w = false

-- the field is compared so with the variable
abbrev pub compares_so : Bindings → FactContent → ComparedField → Bool
compares_so env content c = both_compare c.comparison (field_value c.place.slot c.place.field content) (value_at c.variable env.variables)

-- each of these fields is
abbrev pub all_compare : List ComparedField → Bindings → FactContent → Bool
all_compare cs env content = list_all (compares_so env content) cs
