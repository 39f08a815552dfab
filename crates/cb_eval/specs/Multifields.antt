-- Multifields.
use Rattle.std.specs.Prelude.{◌+◌, ℕ, zero, suc, ℤ, pos, negsuc, List, Option, Some, None, Result, Ok, drop, length, slice_get, take}
use Rattle.std.specs.List.{position}
use Rattle.cb_eval.specs.Arguments.{both_of, fields_of, integer_of, only_value, single_of}
use Rattle.cb_eval.specs.Comparison.{same}
use Rattle.cb_eval.specs.Constants.{false_symbol, nil_symbol}
use Rattle.cb_forms.specs.declared.fault.Fault.{Fault}
use Rattle.cb_facts.specs.Results.{and_then, ok_then}
use Rattle.cb_facts.specs.Values.{spliced, value_of_field}
use Rattle.cb_facts.specs.declared.single.Single.{Single}
use Rattle.cb_facts.specs.declared.value.Value.{Value}
use Rattle.cb_facts.specs.declared.value.Value.TheVariants as value

-- a multifield of all values, multifields spliced
abbrev pub created : List Value → Result Value Fault
created vs = Ok (value.Multi (spliced vs))

-- a field, and nil where there is none
abbrev pub field_or_nil : Option Single → Value
field_or_nil None = nil_symbol
field_or_nil (Some field) = value_of_field field

-- the field at a place, which counts from 1
abbrev pub field_at : ℤ → List Single → Value
field_at (pos zero) fields = nil_symbol
field_at (pos (suc i)) fields = field_or_nil (slice_get fields i)
field_at (negsuc n) fields = nil_symbol

-- the field at a place of a multifield
abbrev pub nth : List Value → Result Value Fault
nth vs = and_then (both_of vs) (λ p. and_then (integer_of p.0) (λ n. ok_then (field_at n) (fields_of p.1)))

-- a place that counts from 1, and FALSE where there is none
abbrev pub place_or_false : Option ℕ → Value
place_or_false None = false_symbol
place_or_false (Some i) = value.Int (pos (i + 1))

-- the first place of a value among fields
abbrev pub place_of : Value → List Single → Value
place_of v fields = place_or_false (position (λ field. same (value_of_field field) v) fields)

-- the first place of a single value in a multifield
abbrev pub member : List Value → Result Value Fault
member vs = and_then (both_of vs) (λ p. and_then (single_of p.0) (λ v. ok_then (place_of v) (fields_of p.1)))

-- what is made of the fields of the only value, a multifield
abbrev pub of_fields : (List Single → Value) → List Value → Result Value Fault
of_fields make vs = ok_then make (and_then (only_value vs) fields_of)

-- `length$`.
abbrev pub number_of_fields : List Single → Value
number_of_fields fields = value.Int (pos (length fields))

-- the first field; none of none
abbrev pub first_field : List Single → Value
first_field fields = value.Multi (take 1 fields)

-- all fields but the first
abbrev pub other_fields : List Single → Value
other_fields fields = value.Multi (drop 1 fields)
