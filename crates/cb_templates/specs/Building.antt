-- Facts from the values that they are given.
use Rattle.std.specs.Prelude.{◌&&◌, ◌||◌, ℕ, Bool, true, false, not, List, [], ◌∷◌, ◌++◌, Option, Some, None, Result, Ok, Err, map, is_some, if◌then◌else◌}
use Rattle.std.specs.List.{list_all}
use Rattle.std.specs.Option.{ok_or}
use Rattle.std.specs.Str.{bytes_eq}
use Rattle.cb_forms.specs.declared.fault.Fault.{Fault}
use Rattle.cb_forms.specs.declared.fault.Fault.TheVariants.{FactDoesNotFit, OneValueWanted}
use Rattle.cb_facts.specs.Facts.{FactContent, FactValue, fields, ordered_fact, slots as slot_pairs, template_fact}
use Rattle.cb_facts.specs.Values.{spliced, is_multifield}
use Rattle.cb_facts.specs.declared.value.Value.{Value}
use Rattle.cb_facts.specs.declared.value.Value.TheVariants as value
use Rattle.cb_facts.specs.Results.{ok_then, with_first}
use Rattle.cb_templates.specs.Slots.{GivenValues, SlotShape, slot_named}
use Rattle.cb_templates.specs.Templates.{Templates, slots_of}
use Rattle.cb_templates.specs.declared.parts.Parts.{Parts}
use Rattle.cb_templates.specs.declared.parts.Parts.TheVariants as program

-- the slots that a fact is given, each with its values
abbrev pub Given : Type 0
Given = List GivenValues

-- what a fact is given: the values of its fields, or of its slots
pub data PartValues : Type 0 where
  field_values : List Value → PartValues
  slot_values : Given → PartValues

-- what a `Parts` of the program is
abbrev pub part_values : Parts → PartValues
part_values (program.Fields values) = field_values values.items
part_values (program.Slots given) = slot_values given.items

-- the values that are given for the slot with the name
abbrev pub given_for : Given → List ℕ → Option (List Value)
given_for [] name = None
given_for (g ∷ given) name = if bytes_eq g.0 name then Some g.1 else given_for given name

-- the names of the slots that are given, in order
abbrev pub given_names : Given → List (List ℕ)
given_names given = map (λ g. g.0) given

-- no slot is given twice
abbrev pub are_distinct : Given → Bool
are_distinct [] = true
are_distinct (g ∷ given) = not (is_some (given_for given g.0)) && are_distinct given

-- The values given for a slot are exactly one.
abbrev pub is_one_value : List Value → Bool
is_one_value (v ∷ []) = true
is_one_value vs = false

-- a slot can take what it is given: a multislot any number of values, another slot one; given none, it has a default
abbrev pub can_take : SlotShape → Option (List Value) → Bool
can_take s None = is_some s.default
can_take s (Some vs) = s.is_multi || is_one_value vs

-- what is given fits the slots: it names slots that are there, each at most once, and each slot can take it
abbrev pub fits : List SlotShape → Given → Bool
fits slots given =
    list_all (λ g. is_some (slot_named slots g.0)) given && (are_distinct given && list_all (λ s. can_take s (given_for given s.name)) slots)

-- one value, which is no multifield
abbrev pub one_value : List Value → Result Value Fault
one_value (v ∷ []) = if is_multifield v then Err OneValueWanted else Ok v
one_value vs = Err FactDoesNotFit

-- the value of a slot, by what it is given
abbrev pub value_or_default : SlotShape → Option (List Value) → Result Value Fault
value_or_default s None = ok_or s.default FactDoesNotFit
value_or_default s (Some vs) = if s.is_multi then Ok (value.Multi (spliced vs)) else one_value vs

-- the slots of a template, each with its value
abbrev pub filled : List SlotShape → Given → Result (List (List ℕ × Value)) Fault
filled [] given = Ok []
filled (s ∷ slots) given = with_first (ok_then (λ v. (s.name, v)) (value_or_default s (given_for given s.name))) (filled slots given)

-- the fact of a relation with these slots; that they don't fit is reported before a multifield where one value is wanted
abbrev pub slots_built : List ℕ → List SlotShape → Given → Result FactValue Fault
slots_built relation slots given = if fits slots given then ok_then (template_fact relation) (filled slots given) else Err FactDoesNotFit

-- The fact that these values make, by the slots of the relation, if it has a template; or its fault.
abbrev pub built_by : List ℕ → Option (List SlotShape) → PartValues → Result FactValue Fault
built_by relation None (field_values vs) = Ok (ordered_fact relation (spliced vs))
built_by relation None (slot_values given) = Err FactDoesNotFit
built_by relation (Some slots) (field_values vs) = Err FactDoesNotFit
built_by relation (Some slots) (slot_values given) = slots_built relation slots given

-- the fact of a relation, by its template if it has one
abbrev pub built : Templates → List ℕ → PartValues → Result FactValue Fault
built templates relation parts = built_by relation (slots_of templates relation) parts

-- a slot of a fact is given the value that it has, unless it is given already
abbrev pub with_kept_slot : Given → List ℕ × Value → Given
with_kept_slot given s = if is_some (given_for given s.0) then given else given ++ (s.0, s.1 ∷ []) ∷ []

-- What is given, and each other slot of a fact with the value that it has.
abbrev pub with_kept_slots : Given → List (List ℕ × Value) → Given
with_kept_slots given [] = given
with_kept_slots given (s ∷ slots) = with_kept_slots (with_kept_slot given s) slots

-- a fact of a relation with this content, of which these slots are given new values
abbrev pub content_changed : Templates → List ℕ → FactContent → Given → Result FactValue Fault
content_changed templates relation (fields xs) given = Err FactDoesNotFit
content_changed templates relation (slot_pairs pairs) given = built templates relation (slot_values (with_kept_slots given pairs))

-- The fact that a template's fact becomes where these slots are given new values, and its other slots keep theirs; or its fault.
abbrev pub changed : Templates → FactValue → Given → Result FactValue Fault
changed templates fact given = content_changed templates fact.relation fact.content given
