-- What the faults and the shape of a template share: variables that stand alone, names of types, derived defaults.
use Rattle.std.specs.Prelude.{◌||◌, ℕ, Bool, false, List, [], Option, Some, None, codes, pos, if◌then◌else◌}
use Rattle.std.specs.Str.{bytes_eq}
use Rattle.cb_forms.specs.Trees.{Tree, atom, branch, Trees, no_trees, tree}
use Rattle.cb_forms.specs.declared.fault.Fault.{Fault}
use Rattle.cb_forms.specs.declared.fault.Fault.TheVariants.{MalformedForm, NotInProfile}
use Rattle.cb_forms.specs.declared.token.Token.{Token}
use Rattle.cb_forms.specs.declared.token.Token.TheVariants as token
use Rattle.cb_facts.specs.declared.value.Value.{Value}
use Rattle.cb_facts.specs.declared.value.Value.TheVariants as value
use Rattle.cb_templates.specs.Slots.{Types, are_only}
use Rattle.cb_templates.specs.declared.slot_type.SlotType.{SlotType}
use Rattle.cb_templates.specs.declared.slot_type.SlotType.TheVariants as type

abbrev pub is_variable_token : List ℕ → Token → Bool
is_variable_token name (token.Var n) = bytes_eq n name
is_variable_token name t = false

abbrev pub is_variable_form : List ℕ → Tree → Bool
is_variable_form name (atom t) = is_variable_token name t
is_variable_form name (branch ts) = false

-- the variable of this name and nothing else
abbrev pub is_variable : List ℕ → Trees → Bool
is_variable name (tree t no_trees) = is_variable_form name t
is_variable name ts = false

-- the type with this name
abbrev pub type_named : List ℕ → Option SlotType
type_named name =
    if bytes_eq name (codes "INTEGER") then Some type.Integer else (
    if bytes_eq name (codes "SYMBOL") then Some type.Symbol else (
    if bytes_eq name (codes "STRING") then Some type.Str else (
    if bytes_eq name (codes "NUMBER") then Some type.Number else (
    if bytes_eq name (codes "LEXEME") then Some type.Lexeme else None))))

-- what is wrong with a token that is no constant
abbrev pub no_constant : Token → Fault
no_constant (token.Global name) = NotInProfile
no_constant t = MalformedForm

-- what is wrong with a list in a default: a call is valid in CLIPS, but not in this profile
abbrev pub no_call : Option (List ℕ × Trees) → Fault
no_call None = MalformedForm
no_call (Some call) = NotInProfile

-- the derived default of a slot of these types that is no multislot
abbrev pub derived_one : Types → Value
derived_one ts =
    if are_only type.Str ts then value.Str [] else (
    if are_only type.Integer ts || are_only type.Number ts then value.Int (pos 0) else value.Symbol (codes "nil"))

-- The derived default: of a multislot no values, of another slot what its types give.
abbrev pub derived : Bool → Types → Value
derived is_multi ts = if is_multi then value.Multi [] else derived_one ts
