-- The slots of a template.
use Rattle.std.specs.Prelude.{◌||◌, ◌++◌, ℕ, Bool, true, false, List, [], ◌∷◌, Option, Some, None, map, if◌then◌else◌}
use Rattle.std.specs.List.{list_any, list_all}
use Rattle.std.specs.Str.{bytes_eq}
use Rattle.cb_facts.specs.Values.{fields_in}
use Rattle.cb_facts.specs.declared.single.Single.{Single}
use Rattle.cb_facts.specs.declared.single.Single.TheVariants as single
use Rattle.cb_facts.specs.declared.value.Value.{Value}
use Rattle.cb_templates.specs.contracts.slot_type.SlotTypePartialEq.TheImpl as type_eq
use Rattle.cb_templates.specs.declared.slot_type.SlotType.{SlotType}
use Rattle.cb_templates.specs.declared.slot_type.SlotType.TheVariants.{Integer, Symbol, Str, Number, Lexeme}

abbrev pub is_integer_field : Single → Bool
is_integer_field (single.Int n) = true
is_integer_field v = false

abbrev pub is_symbol_field : Single → Bool
is_symbol_field (single.Symbol bytes) = true
is_symbol_field v = false

abbrev pub is_string_field : Single → Bool
is_string_field (single.Str bytes) = true
is_string_field v = false

-- the field is of the type; there are no numbers but integers, and a lexeme is a symbol or a string
abbrev pub is_of : SlotType → Single → Bool
is_of Integer v = is_integer_field v
is_of Number v = is_integer_field v
is_of Symbol v = is_symbol_field v
is_of Str v = is_string_field v
is_of Lexeme v = is_symbol_field v || is_string_field v

-- the types that a slot names, or `None` where it takes any value
abbrev pub Types : Type 0
Types = Option (List SlotType)

-- the types with one more, each of them once
abbrev pub with_type : List SlotType → SlotType → List SlotType
with_type ts t = if list_any (λ u. type_eq.ghosts.eq u t) ts then ts else ts ++ t ∷ []

-- no type but this one is named
abbrev pub are_only : SlotType → Types → Bool
are_only t None = false
are_only t (Some ts) = list_all (λ u. type_eq.ghosts.eq u t) ts

-- the field is of one of the types
abbrev pub allows : Types → Single → Bool
allows None v = true
allows (Some ts) v = list_any (λ t. is_of t v) ts

-- all fields of the value are
abbrev pub allows_all : Types → Value → Bool
allows_all ts v = list_all (allows ts) (fields_in v)

-- A slot: its name, whether it holds a multifield, the types that its fields may have, and its value in a fact that doesn't
-- give it. Without such a value each fact must give it.
pub record SlotShape : Type 0 where
  pub name : List ℕ
  pub is_multi : Bool
  pub types : Types
  pub default : Option Value

-- the names of slots, in order
abbrev pub names : List SlotShape → List (List ℕ)
names slots = map (λ s. s.name) slots

-- the slot with the name
abbrev pub slot_named : List SlotShape → List ℕ → Option SlotShape
slot_named [] name = None
slot_named (s ∷ slots) name = if bytes_eq s.name name then Some s else slot_named slots name

-- a slot that a fact is given: its name and its values
abbrev pub GivenValues : Type 0
GivenValues = List ℕ × List Value
