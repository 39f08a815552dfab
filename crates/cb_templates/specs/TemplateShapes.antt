-- Which template a `deftemplate` without a fault defines.
use Rattle.std.specs.Prelude.{ℕ, Bool, true, false, List, [], ◌∷◌, Option, Some, None, codes, if◌then◌else◌}
use Rattle.std.specs.Option.{option_flatten, option_map, option_map_or, option_or}
use Rattle.std.specs.Str.{bytes_eq}
use Rattle.cb_forms.specs.Members.{call_of, head_and_rest, symbol_of}
use Rattle.cb_forms.specs.Trees.{Tree, atom, branch, Trees, no_trees, tree}
use Rattle.cb_facts.specs.Values.{constant_of, spliced}
use Rattle.cb_facts.specs.declared.value.Value.{Value}
use Rattle.cb_facts.specs.declared.value.Value.TheVariants as value
use Rattle.cb_templates.specs.SlotForms.{derived, is_variable, type_named}
use Rattle.cb_templates.specs.Slots.{Types, SlotShape, with_type}
use Rattle.cb_templates.specs.Templates.{without_comment}
use Rattle.cb_templates.specs.declared.attribute.SlotDefault.{SlotDefault}
use Rattle.cb_templates.specs.declared.attribute.SlotDefault.TheVariants.{Required, Derived, Fixed}
use Rattle.cb_templates.specs.declared.slot_type.SlotType.{SlotType}

-- these types, and then those that forms name, each once
abbrev pub types_listed : List SlotType → Trees → List SlotType
types_listed types no_trees = types
types_listed types (tree t ts) = types_listed (option_map_or (with_type types) (option_flatten (option_map type_named (symbol_of t))) types) ts

-- what `(type ..)` says, by what follows its head
abbrev pub types_said : Trees → Types
types_said ts = if is_variable (codes "VARIABLE") ts then None else Some (types_listed [] ts)

-- The constant that a form is.
abbrev pub constant_in : Tree → Option Value
constant_in (atom t) = constant_of t
constant_in (branch ts) = None

-- the constants among forms
abbrev pub constants_listed : Trees → List Value
constants_listed no_trees = []
constants_listed (tree t ts) = option_map_or (λ v. v ∷ constants_listed ts) (constant_in t) (constants_listed ts)

-- The first of the constants, as a default.
abbrev pub default_by : List Value → Option SlotDefault
default_by [] = None
default_by (v ∷ vs) = Some (Fixed v)

-- what `(default ..)` says, by what follows its head
abbrev pub default_said : Bool → Trees → Option SlotDefault
default_said is_multi ts =
    if is_variable (codes "NONE") ts then Some Required else (
    if is_variable (codes "DERIVE") ts then Some Derived else (
    if is_multi then Some (Fixed (value.Multi (spliced (constants_listed ts)))) else default_by (constants_listed ts)))

-- what follows this head, in a list that begins with it
abbrev pub after_head : List ℕ → Option (List ℕ × Trees) → Option Trees
after_head head None = None
after_head head (Some (name, ts)) = if bytes_eq name head then Some ts else None

-- what follows the head of the first attribute of this name
abbrev pub attribute : List ℕ → Trees → Option Trees
attribute name no_trees = None
attribute name (tree t ts) = option_or (after_head name (call_of t)) (attribute name ts)

-- the types of a slot, by its attributes: without `type` it takes any value
abbrev pub types_in : Trees → Types
types_in ts = option_flatten (option_map types_said (attribute (codes "type") ts))

-- what is said of its default
abbrev pub default_in : Bool → Trees → Option SlotDefault
default_in is_multi ts = option_flatten (option_map (default_said is_multi) (attribute (codes "default") ts))

-- its value in a fact that doesn't give it
abbrev pub value_for : Bool → Types → Option SlotDefault → Option Value
value_for is_multi types None = Some (derived is_multi types)
value_for is_multi types (Some Derived) = Some (derived is_multi types)
value_for is_multi types (Some Required) = None
value_for is_multi types (Some (Fixed v)) = Some v

-- a slot, by its name and its attributes
abbrev pub slot_said : Bool → List ℕ × Trees → SlotShape
slot_said is_multi (name, ts) =
    record { name = name; is_multi = is_multi; types = types_in ts; default = value_for is_multi (types_in ts) (default_in is_multi ts) }

-- whether a slot with this head holds a multifield
abbrev pub kind_of : List ℕ → Option Bool
kind_of head =
    if bytes_eq head (codes "slot") then Some false else (
    if bytes_eq head (codes "multislot") then Some true else None)

-- The slot that a list is, by whether it is a multislot.
abbrev pub slot_of_kind : Option Bool → Trees → Option SlotShape
slot_of_kind None ts = None
slot_of_kind (Some is_multi) ts = option_map (slot_said is_multi) (head_and_rest ts)

-- The slot that a list is.
abbrev pub slot_headed : Option (List ℕ × Trees) → Option SlotShape
slot_headed None = None
slot_headed (Some (head, ts)) = slot_of_kind (kind_of head) ts

-- the slots that forms are
abbrev pub slots_said : Trees → List SlotShape
slots_said no_trees = []
slots_said (tree t ts) = option_map_or (λ s. s ∷ slots_said ts) (slot_headed (call_of t)) (slots_said ts)

-- a template, by its name and what follows; without a name, an arbitrary one
abbrev pub template_said : Option (List ℕ × Trees) → List ℕ × List SlotShape
template_said None = ([], [])
template_said (Some (name, ts)) = (name, slots_said (without_comment ts))

-- `(deftemplate name "comment" slot ..)`, by what follows its head; if that has a fault, an arbitrary one
abbrev pub template_shape : Trees → List ℕ × List SlotShape
template_shape ts = template_said (head_and_rest ts)
