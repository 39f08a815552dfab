-- The fields of a fact that have to be equal to constants, whatever else a pattern asks.
use Rattle.std.specs.Prelude.{Bool, false, List, [], ◌∷◌, flat_map, map}
use Rattle.cb_constraints.specs.Constraints.{Test, constant, Check, Demand, nothing, each, either}
use Rattle.cb_constraints.specs.PatternValues.{PatternParts}
use Rattle.cb_facts.specs.declared.value.Value.{Value}
use Rattle.cb_fit.specs.FieldPlaces.{PlacedDemand, placed_demands}
use Rattle.cb_fit.specs.declared.constant_fields.ConstantField.{ConstantField}
use Rattle.cb_fit.specs.declared.field_place.FieldPlace.{FieldPlace}

-- the constant of a check without `~`
abbrev pub plain_constant : Bool → Test → List Value
plain_constant false (constant v) = v ∷ []
plain_constant negated t = []

-- those of checks joined by `&`
abbrev pub plain_constants : List Check → List Value
plain_constants cs = flat_map (λ c. plain_constant c.negated c.test) cs

-- the constants that a value has to be equal to where a constraint holds of it; of alternatives it may be any
abbrev pub constants : Demand → List Value
constants nothing = []
constants (each cs) = plain_constants cs
constants (either first alternatives) = []

-- the field at this place has to be equal to each of these constants
abbrev pub constants_at : FieldPlace → List Value → List ConstantField
constants_at at values = map (λ v. record { place = at; value = v }) values

-- a field that a pattern takes alone, with the constants that stand there without `~`
abbrev pub demand_constant_fields : PlacedDemand → List ConstantField
demand_constant_fields d = constants_at d.place (constants d.demand)

-- those of all fields that a pattern takes alone before the first segment of a row
abbrev pub constant_fields : PatternParts → List ConstantField
constant_fields p = flat_map demand_constant_fields (placed_demands p)
