-- The fields of a fact that have to be equal to variables, whatever else a pattern asks.
use Rattle.std.specs.Prelude.{ℕ, not, List, [], ◌∷◌, Option, filter, flat_map, map}
use Rattle.std.specs.Str.{bytes_eq}
use Rattle.cb_constraints.specs.Binders.{binders}
use Rattle.cb_constraints.specs.PatternValues.{PatternParts}
use Rattle.cb_facts.specs.Facts.{FactContent}
use Rattle.cb_facts.specs.declared.value.Value.{Value}
use Rattle.cb_fit.specs.FieldPlaces.{PlacedDemand, field_value, placed_demands}
use Rattle.cb_fit.specs.declared.field_place.FieldPlace.{FieldPlace}
use Rattle.cb_fit.specs.declared.join_fields.JoinField.{JoinField}

-- the field at this place has to be equal to each of these variables
abbrev pub fields_for : FieldPlace → List (List ℕ) → List JoinField
fields_for at names = map (λ x. record { variable = x; slot = at.slot; field = at.field }) names

-- a field that a pattern takes alone, with the variables that stand there without `~`
abbrev pub demand_join_fields : PlacedDemand → List JoinField
demand_join_fields d = fields_for d.place (binders d.demand)

-- those of all fields that a pattern takes alone before the first segment of a row
abbrev pub join_fields : PatternParts → List JoinField
join_fields p = flat_map demand_join_fields (placed_demands p)

-- the place of the field
abbrev pub place_of : JoinField → FieldPlace
place_of j = record { slot = j.slot; field = j.field }

-- of several fields with one variable the first
abbrev pub first_fields : List JoinField → List JoinField
first_fields [] = []
first_fields (j ∷ js) = j ∷ filter (λ (k : JoinField). not (bytes_eq j.variable k.variable)) (first_fields js)

-- the fields that may give variables their values: the first field with each variable
abbrev pub giving_fields : PatternParts → List JoinField
giving_fields p = first_fields (join_fields p)

-- the value that a variable has to have for a fact of this content
abbrev pub value_in : JoinField → FactContent → Option Value
value_in j content = field_value j.slot j.field content
