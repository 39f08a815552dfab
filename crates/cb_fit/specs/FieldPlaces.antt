-- The places of fields in a fact, and what a pattern asks of each field that it takes alone.
use Rattle.std.specs.Prelude.{◌+◌, ℕ, List, [], ◌∷◌, Option, Some, None, drop, flat_map, if◌then◌else◌}
use Rattle.std.specs.Option.{option_map_or}
use Rattle.cb_constraints.specs.Constraints.{Constraint, Demand}
use Rattle.cb_constraints.specs.PatternValues.{PatternParts, SlotValue}
use Rattle.cb_constraints.specs.PatternValues as pattern
use Rattle.cb_facts.specs.Facts.{FactContent}
use Rattle.cb_facts.specs.Facts as fact
use Rattle.cb_facts.specs.Values.{fields_in, value_of_field}
use Rattle.cb_facts.specs.declared.single.Single.{Single}
use Rattle.cb_facts.specs.declared.value.Value.{Value}
use Rattle.cb_fit.specs.Ways.{slot_at}
use Rattle.cb_fit.specs.declared.field_place.FieldPlace.{FieldPlace}

-- the value of the first field, if there is one
abbrev pub first_field : List Single → Option Value
first_field [] = None
first_field (f ∷ fs) = Some (value_of_field f)

-- the value of the field at a place, if there is one
abbrev pub field_at : ℕ → List Single → Option Value
field_at n fields = first_field (drop n fields)

-- the value of a field in the content of a fact, if there is one
abbrev pub field_value : Option ℕ → ℕ → FactContent → Option Value
field_value None n (fact.fields fs) = field_at n fs
field_value None n (fact.slots ss) = None
field_value (Some place) n (fact.fields fs) = None
field_value (Some place) n (fact.slots ss) = option_map_or (λ v. field_at n (fields_in v)) (slot_at place ss) None

-- a field of a fact, and what is asked of it
pub record PlacedDemand : Type 0 where
  pub place : FieldPlace
  pub demand : Demand

-- this is asked of the field at this place of a slot, or of an ordered fact
abbrev pub placed_at : Option ℕ → ℕ → Demand → PlacedDemand
placed_at slot n d = record { place = record { slot = slot; field = n }; demand = d }

-- the fields that a row takes one by one before its first segment, from this place on, each with what its constraint asks
abbrev pub row_demands : Option ℕ → ℕ → List Constraint → List PlacedDemand
row_demands slot n [] = []
row_demands slot n (c ∷ cs) = if c.segment then [] else placed_at slot n c.demand ∷ row_demands slot (n + 1) cs

-- those of a slot that a pattern writes
abbrev pub slot_demands : SlotValue → List PlacedDemand
slot_demands s = row_demands (Some s.place) 0 s.row

-- those of all that a pattern asks
abbrev pub placed_demands : PatternParts → List PlacedDemand
placed_demands (pattern.fields row) = row_demands None 0 row
placed_demands (pattern.slots rows) = flat_map slot_demands rows
