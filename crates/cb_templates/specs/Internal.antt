-- A template gone through form by form, up to the first fault.
use Rattle.std.specs.Prelude.{◌∷◌, ◌++◌, ℕ, Bool, true, false, List, [], Option, Some, None, Result, Ok, Err, codes, is_some, if◌then◌else◌}
use Rattle.std.specs.Option.{ok_or, option_flatten}
use Rattle.std.specs.Str.{bytes_eq}
use Rattle.cb_forms.specs.Members.{call_of, head_and_rest, symbol_of}
use Rattle.cb_forms.specs.Trees.{Tree, atom, branch, Trees, no_trees, tree}
use Rattle.cb_forms.specs.declared.fault.Fault.{Fault}
use Rattle.cb_forms.specs.declared.fault.Fault.TheVariants.{MalformedForm, ValueNotAllowed, NotInProfile}
use Rattle.cb_facts.specs.Values.{constant_of, spliced}
use Rattle.cb_facts.specs.declared.value.Value.{Value}
use Rattle.cb_facts.specs.declared.value.Value.TheVariants as value
use Rattle.cb_facts.specs.Results.{ok_then, and_then, with_first}
use Rattle.cb_templates.specs.SlotForms.{derived, is_variable, no_call, no_constant, type_named}
use Rattle.cb_templates.specs.Slots.{Types, allows_all, with_type, SlotShape, slot_named}
use Rattle.cb_templates.specs.declared.attribute.Attributes.{Attributes}
use Rattle.cb_templates.specs.declared.attribute.SlotDefault.{SlotDefault}
use Rattle.cb_templates.specs.declared.attribute.SlotDefault.TheVariants.{Required, Derived, Fixed}
use Rattle.cb_templates.specs.declared.slot_type.SlotType.{SlotType}

-- one type of a `type` attribute: a symbol that names none of the five may be a type of CLIPS
abbrev pub type_by : Option (List ℕ) → Result SlotType Fault
type_by None = Err MalformedForm
type_by (Some name) = ok_or (type_named name) NotInProfile

-- the types that forms name, each once, after those that were named
abbrev pub types_after : List SlotType → Trees → Result (List SlotType) Fault
types_after types no_trees = Ok types
types_after types (tree t ts) = and_then (type_by (symbol_of t)) (λ more. types_after (with_type types more) ts)

-- What `type` says: at least one type, or `?VARIABLE` alone for any value.
abbrev pub some_types : Trees → Result Types Fault
some_types no_trees = Err MalformedForm
some_types (tree t ts) = ok_then Some (types_after [] (tree t ts))

-- `(type T ..)`, by what follows its head: at least one type, or `?VARIABLE` for any value
abbrev pub types_of : Trees → Result Types Fault
types_of ts = if is_variable (codes "VARIABLE") ts then Ok None else some_types ts

-- one constant of a `default` attribute
abbrev pub default_constant : Tree → Result Value Fault
default_constant (atom t) = ok_or (constant_of t) (no_constant t)
default_constant (branch ts) = Err (no_call (head_and_rest ts))

-- The constants of a default that is written.
abbrev pub default_constants : Trees → Result (List Value) Fault
default_constants no_trees = Ok []
default_constants (tree t ts) = with_first (default_constant t) (default_constants ts)

-- the one constant of a slot's default
abbrev pub one_default : Trees → Result SlotDefault Fault
one_default (tree t no_trees) = ok_then Fixed (default_constant t)
one_default ts = Err MalformedForm

-- the constants of a multislot's default
abbrev pub multi_default : Trees → Result SlotDefault Fault
multi_default ts = ok_then (λ vs. Fixed (value.Multi (spliced vs))) (default_constants ts)

-- `(default ..)`, by what follows its head
abbrev pub default_of : Bool → Trees → Result SlotDefault Fault
default_of is_multi ts =
    if is_variable (codes "NONE") ts then Ok Required else (
    if is_variable (codes "DERIVE") ts then Ok Derived else (
    if is_multi then multi_default ts else one_default ts))

-- no attributes yet; and these with their types, or with their default
abbrev pub no_attributes : Attributes
no_attributes = record { types = None; default = None }

abbrev pub with_types : Attributes → Types → Attributes
with_types a ts = record { types = Some ts; default = a.default }

abbrev pub with_default : Attributes → SlotDefault → Attributes
with_default a d = record { types = a.types; default = Some d }

-- these with `type`, or with `default`, by what follows its head; each is given at most once
abbrev pub types_added : Attributes → Trees → Result Attributes Fault
types_added a ts = if is_some a.types then Err MalformedForm else ok_then (with_types a) (types_of ts)

abbrev pub default_added : Bool → Attributes → Trees → Result Attributes Fault
default_added is_multi a ts = if is_some a.default then Err MalformedForm else ok_then (with_default a) (default_of is_multi ts)

-- one attribute more, by its head and what follows
abbrev pub attribute_by : Bool → Attributes → Option (List ℕ × Trees) → Result Attributes Fault
attribute_by is_multi a None = Err MalformedForm
attribute_by is_multi a (Some (name, ts)) =
    if bytes_eq name (codes "type") then types_added a ts else (
    if bytes_eq name (codes "default") then default_added is_multi a ts else
    Err NotInProfile)

-- the attributes of a slot, after those that were given
abbrev pub attributes_after : Bool → Attributes → Trees → Result Attributes Fault
attributes_after is_multi a no_trees = Ok a
attributes_after is_multi a (tree t ts) = and_then (attribute_by is_multi a (call_of t)) (λ b. attributes_after is_multi b ts)

-- The slot with these attributes. Constants must be of its types; the derived value need not.
abbrev pub slot_with : List ℕ → Bool → Types → Option SlotDefault → Result SlotShape Fault
slot_with name is_multi ts None = Ok (record { name = name; is_multi = is_multi; types = ts; default = Some (derived is_multi ts) })
slot_with name is_multi ts (Some Derived) = Ok (record { name = name; is_multi = is_multi; types = ts; default = Some (derived is_multi ts) })
slot_with name is_multi ts (Some Required) = Ok (record { name = name; is_multi = is_multi; types = ts; default = None })
slot_with name is_multi ts (Some (Fixed v)) =
    if allows_all ts v then Ok (record { name = name; is_multi = is_multi; types = ts; default = Some v }) else Err ValueNotAllowed

-- The slot with these attributes; CB10 where a constant of its default is not of its types.
abbrev pub finished : List ℕ → Bool → Attributes → Result SlotShape Fault
finished name is_multi a = slot_with name is_multi (option_flatten a.types) a.default

-- a slot after those of the template so far, by its name and its attributes; each name is given at most once
abbrev pub slot_defined : List SlotShape → Bool → Option (List ℕ × Trees) → Result SlotShape Fault
slot_defined slots is_multi None = Err MalformedForm
slot_defined slots is_multi (Some (name, ts)) =
    if is_some (slot_named slots name) then Err MalformedForm else and_then (attributes_after is_multi no_attributes ts) (finished name is_multi)

-- `(slot name attribute ..)` or `(multislot name attribute ..)`, by its head and what follows
abbrev pub slot_by : List SlotShape → Option (List ℕ × Trees) → Result SlotShape Fault
slot_by slots None = Err MalformedForm
slot_by slots (Some (head, ts)) =
    if bytes_eq head (codes "slot") then slot_defined slots false (head_and_rest ts) else (
    if bytes_eq head (codes "multislot") then slot_defined slots true (head_and_rest ts) else
    Err MalformedForm)

-- the slots of a template, after those so far
abbrev pub slots_after : List SlotShape → Trees → Result (List SlotShape) Fault
slots_after slots no_trees = Ok slots
slots_after slots (tree t ts) = and_then (slot_by slots (call_of t)) (λ s. slots_after (slots ++ s ∷ []) ts)
