-- What is wrong with a template as it is written, in the order in which it is looked for.
use Rattle.std.specs.Prelude.{◌||◌, ◌++◌, ℕ, Bool, true, false, not, List, [], ◌∷◌, Option, Some, None, codes, is_some, if◌then◌else◌}
use Rattle.std.specs.List.{list_any}
use Rattle.std.specs.Str.{bytes_eq}
use Rattle.cb_forms.specs.Members.{call_of, head_and_rest, symbol_of}
use Rattle.cb_forms.specs.Trees.{Tree, atom, branch, Trees, no_trees, tree}
use Rattle.cb_forms.specs.declared.fault.Fault.{Fault}
use Rattle.cb_forms.specs.declared.fault.Fault.TheVariants.{MalformedForm, ValueNotAllowed, NotInProfile, TemplateInUse}
use Rattle.cb_facts.specs.Values.{constant_of}
use Rattle.cb_facts.specs.FaultLists.{unless}
use Rattle.cb_words.specs.Reserved.{is_reserved}
use Rattle.cb_templates.specs.SlotForms.{is_variable, no_call, no_constant, type_named}
use Rattle.cb_templates.specs.Slots.{Types, allows_all}
use Rattle.cb_templates.specs.TemplateShapes.{default_in, kind_of, types_in}
use Rattle.cb_templates.specs.Templates.{without_comment}
use Rattle.cb_templates.specs.declared.attribute.SlotDefault.{SlotDefault}
use Rattle.cb_templates.specs.declared.attribute.SlotDefault.TheVariants.{Fixed}

-- one of the names is this one
abbrev pub is_among : List (List ℕ) → List ℕ → Bool
is_among names name = list_any (λ n. bytes_eq n name) names

abbrev pub is_no_form : Trees → Bool
is_no_form no_trees = true
is_no_form (tree t ts) = false

abbrev pub is_one_form : Trees → Bool
is_one_form (tree t no_trees) = true
is_one_form ts = false

-- a type is a symbol that names one of the five types
abbrev pub type_name_faults : Option (List ℕ) → List Fault
type_name_faults None = MalformedForm ∷ []
type_name_faults (Some name) = unless (is_some (type_named name)) NotInProfile

-- What is wrong with forms as types.
abbrev pub types_faults : Trees → List Fault
types_faults no_trees = []
types_faults (tree t ts) = type_name_faults (symbol_of t) ++ types_faults ts

-- `(type ..)` has `?VARIABLE` alone, or one type or more
abbrev pub type_attribute_faults : Trees → List Fault
type_attribute_faults ts = if is_variable (codes "VARIABLE") ts then [] else unless (not (is_no_form ts)) MalformedForm ++ types_faults ts

-- a default is a constant
abbrev pub constant_faults : Tree → List Fault
constant_faults (atom t) = unless (is_some (constant_of t)) (no_constant t)
constant_faults (branch ts) = no_call (head_and_rest ts) ∷ []

-- What is wrong with forms as constants.
abbrev pub constants_faults : Trees → List Fault
constants_faults no_trees = []
constants_faults (tree t ts) = constant_faults t ++ constants_faults ts

-- `(default ..)` has `?NONE` or `?DERIVE` alone, or constants; a `slot` has exactly one
abbrev pub default_attribute_faults : Bool → Trees → List Fault
default_attribute_faults is_multi ts =
    if is_variable (codes "NONE") ts || is_variable (codes "DERIVE") ts then [] else unless (is_multi || is_one_form ts) MalformedForm ++ constants_faults ts

-- an attribute is `type` or `default`, and its name isn't among those before it
abbrev pub attribute_faults : Bool → List (List ℕ) → Option (List ℕ × Trees) → List Fault
attribute_faults is_multi before None = MalformedForm ∷ []
attribute_faults is_multi before (Some (name, ts)) =
    if bytes_eq name (codes "type") then unless (not (is_among before (codes "type"))) MalformedForm ++ type_attribute_faults ts else (
    if bytes_eq name (codes "default") then unless (not (is_among before (codes "default"))) MalformedForm ++ default_attribute_faults is_multi ts else
    NotInProfile ∷ [])

-- the names, and the one that a list begins with
abbrev pub and_name : List (List ℕ) → Option (List ℕ × Trees) → List (List ℕ)
and_name before None = before
and_name before (Some (name, ts)) = name ∷ before

-- What is wrong with the attributes of a slot, after those of these names.
abbrev pub attributes_faults : Bool → List (List ℕ) → Trees → List Fault
attributes_faults is_multi before no_trees = []
attributes_faults is_multi before (tree t ts) = attribute_faults is_multi before (call_of t) ++ attributes_faults is_multi (and_name before (call_of t)) ts

-- constants must be of the slot's types
abbrev pub kept_faults : Types → Option SlotDefault → List Fault
kept_faults types (Some (Fixed v)) = unless (allows_all types v) ValueNotAllowed
kept_faults types d = []

-- a slot has a name that no slot before it has, its attributes, and a default of its types
abbrev pub named_slot_faults : Bool → List (List ℕ) → Option (List ℕ × Trees) → List Fault
named_slot_faults is_multi before None = MalformedForm ∷ []
named_slot_faults is_multi before (Some (name, ts)) =
    unless (not (is_among before name)) MalformedForm
    ++ (attributes_faults is_multi [] ts ++ kept_faults (types_in ts) (default_in is_multi ts))

-- What is wrong with a slot, by whether it is a multislot.
abbrev pub kind_faults : Option Bool → List (List ℕ) → Trees → List Fault
kind_faults None before ts = MalformedForm ∷ []
kind_faults (Some is_multi) before ts = named_slot_faults is_multi before (head_and_rest ts)

-- a slot is a list that begins with `slot` or `multislot`
abbrev pub slot_form_faults : List (List ℕ) → Option (List ℕ × Trees) → List Fault
slot_form_faults before None = MalformedForm ∷ []
slot_form_faults before (Some (head, ts)) = kind_faults (kind_of head) before ts

-- the names, and that of a slot
abbrev pub and_slot : List (List ℕ) → Option (List ℕ × Trees) → List (List ℕ)
and_slot before None = before
and_slot before (Some (head, ts)) = and_name before (head_and_rest ts)

-- What is wrong with the slots that forms are, after those of these names.
abbrev pub slots_form_faults : List (List ℕ) → Trees → List Fault
slots_form_faults before no_trees = []
slots_form_faults before (tree t ts) = slot_form_faults before (call_of t) ++ slots_form_faults (and_slot before (call_of t)) ts

-- a template has a name that isn't reserved, its relation isn't in use, and then come its slots
abbrev pub named_template_faults : (List ℕ → Bool) → Option (List ℕ × Trees) → List Fault
named_template_faults in_use None = MalformedForm ∷ []
named_template_faults in_use (Some (name, ts)) =
    unless (not (is_reserved name)) MalformedForm ++ (unless (not (in_use name)) TemplateInUse ++ slots_form_faults [] (without_comment ts))

-- `(deftemplate name "comment" slot ..)`, by what follows its head, where these relations are in use
abbrev pub template_faults : (List ℕ → Bool) → Trees → List Fault
template_faults in_use ts = named_template_faults in_use (head_and_rest ts)
