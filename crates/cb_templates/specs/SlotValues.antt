-- What the slots of a fact have, and what a template that is defined changes.
use Rattle.std.specs.Prelude.{◌≡◌, ◌≢◌, ◌⊎◌, ℕ, true, false, List, [], ◌∷◌, Option, Some, None, is_some}
use Rattle.std.specs.List.{All, Contains, IsDistinct}
use Rattle.std.specs.Map.{lookup}
use Rattle.std.specs.Str.{bytes_eq}
use Rattle.cb_facts.specs.Facts as content
use Rattle.cb_facts.specs.Facts.{FactContent, FactValue}
use Rattle.cb_facts.specs.Values.{is_multifield}
use Rattle.cb_facts.specs.declared.value.Value.{Value}
use Rattle.cb_forms.specs.Members.{head_and_rest}
use Rattle.cb_forms.specs.Trees.{Trees}
use Rattle.cb_templates.specs.Building.{Given, given_names}
use Rattle.cb_templates.specs.Slots.{SlotShape, slot_named}
use Rattle.cb_templates.specs.TemplateFaults.{slots_form_faults}
use Rattle.cb_templates.specs.TemplateShapes.{slots_said}
use Rattle.cb_templates.specs.Templates.{Templates, slots_of, without_comment}

-- The value of the slot with this name in a fact's content, if it has one.
abbrev pub value_among : FactContent → List ℕ → Option Value
value_among (content.fields xs) name = None
value_among (content.slots pairs) name = lookup (bytes_eq name) pairs

-- the value of the slot with this name
abbrev pub slot_value : FactValue → List ℕ → Option Value
slot_value fact name = value_among fact.content name

-- the slot is given these values
abbrev pub IsGiven : Given → List ℕ → List Value → Type 0
IsGiven given name vs = Contains given (name, vs)

-- the slot is not given
abbrev pub IsLeftOut : Given → List ℕ → Type 0
IsLeftOut given name = (vs : List Value) → IsGiven given name vs → ⊥

-- A slot can take what it is given: a multislot any values, another slot one value that is no multifield. If it is left out, it has a
-- default.
pub record CanTake (given : Given) (slot : SlotShape) : Type 0 where
  pub values : (vs : List Value) → IsGiven given slot.name vs → (slot.is_multi ≡ true) ⊎ ((v : Value) × (vs ≡ v ∷ []) × (is_multifield v ≡ false))
  pub left_out : IsLeftOut given slot.name → is_some slot.default ≡ true

-- What is given fits the slots of a template: each is one of them, none is given twice, and each slot can take what it is given.
pub record FitsSlots (slots : List SlotShape) (given : Given) : Type 0 where
  pub known : (name : List ℕ) (vs : List Value) → IsGiven given name vs → is_some (slot_named slots name) ≡ true
  pub once : IsDistinct bytes_eq (given_names given)
  pub each : All (CanTake given) slots

-- What follows `deftemplate` defined a template: it has the slots that are written, and every other relation has the template that
-- it had, or none.
pub record Defines (old : Templates) (forms : Trees) (new : Templates) : Type 0 where
  pub name : List ℕ
  pub written : Trees
  pub head : head_and_rest forms ≡ Some (name, written)
  pub faultless : slots_form_faults [] (without_comment written) ≡ []
  pub here : slots_of new name ≡ Some (slots_said (without_comment written))
  pub others : (other : List ℕ) → other ≢ name → slots_of new other ≡ slots_of old other
