-- What a pattern asks for.
use Rattle.std.specs.Prelude.{◌≡◌, ℕ, List, [], ◌∷◌, Option, Some, map}
use Rattle.cb_alpha.specs.JoinValues.{with_first}
use Rattle.cb_alpha.specs.Mixes.{mix_of}
use Rattle.cb_alpha_network.specs.declared.wanted.Sought.{Sought}
use Rattle.cb_alpha_network.specs.declared.wanted.Wanted.{Wanted}
use Rattle.cb_constraints.specs.PatternValues.{PatternValue}
use Rattle.cb_facts.specs.Facts.{FactContent, FactValue}
use Rattle.cb_facts.specs.declared.value.Value.{Value}
use Rattle.cb_fit.specs.ConstantFields.{constant_fields}
use Rattle.cb_fit.specs.FieldPlaces.{field_value}
use Rattle.cb_fit.specs.declared.constant_fields.ConstantField.{ConstantField}
use Rattle.cb_fit.specs.declared.field_place.FieldPlace.{FieldPlace}

-- the places of constants, and the constants
abbrev pub places_of : List ConstantField → List FieldPlace
places_of cs = map (λ c. c.place) cs

abbrev pub constants_of : List ConstantField → List Value
constants_of cs = map (λ c. c.value) cs

-- a pattern asks for the facts of its relation that have all of its constants
abbrev pub wanted_of : PatternValue → Wanted
wanted_of p = record {
  relation = p.relation;
  places = places_of (constant_fields p.parts);
  values = constants_of (constant_fields p.parts);
}

-- these values at the places with this number
abbrev pub sought_in : ℕ → List Value → Sought
sought_in spot values = record { spot = spot; mix = mix_of values; values = values }

-- the values at these places in the content of a fact, if it has them all
abbrev pub values_at : List FieldPlace → FactContent → Option (List Value)
values_at [] content = Some []
values_at (at ∷ places) content = with_first (field_value at.slot at.field content) (values_at places content)

-- this fact is asked for
abbrev pub Wants : Wanted → FactValue → Type 0
Wants w f = (w.relation ≡ f.relation) × (values_at w.places f.content ≡ Some w.values)
