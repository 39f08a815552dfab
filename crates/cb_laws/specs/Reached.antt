-- What holds of the facts and the templates of every state that a script can reach.
use Rattle.std.specs.Prelude.{◌≡◌, ◌≤◌, ℕ, List, [], ◌∷◌, Option, Some, None}
use Rattle.std.specs.List.{All, IsDistinct}
use Rattle.std.specs.Str.{bytes_eq}
use Rattle.cb_facts.specs.FactLists.{fact_at}
use Rattle.cb_facts.specs.Facts as content
use Rattle.cb_facts.specs.Facts.{FactContent, FactValue}
use Rattle.cb_facts.specs.Values.{is_multifield}
use Rattle.cb_facts.specs.declared.value.Value.{Value}
use Rattle.cb_knowledge_base.specs.KnowledgeBase.{Memory, greatest_index}
use Rattle.cb_laws.specs.Memories.{IsSound}
use Rattle.cb_templates.specs.Slots.{SlotShape, names}
use Rattle.cb_templates.specs.Templates.{Templates, slots_of}

-- the default of a slot, if it has one, is a multifield exactly in a multislot
abbrev pub HasItsDefault : SlotShape → Type 0
HasItsDefault s = (v : Value) → s.default ≡ Some v → is_multifield v ≡ s.is_multi

-- a template's slots: no two have one name, and each has its default
pub record IsTemplate (slots : List SlotShape) : Type 0 where
  pub differ : IsDistinct bytes_eq (names slots)
  pub defaults : All HasItsDefault slots

-- each slot has its name and a value: a multislot a multifield, and another slot a value that is none
abbrev pub FillSlots : List SlotShape → List (List ℕ × Value) → Type 0
FillSlots [] [] = Unit {0}
FillSlots [] (p ∷ pairs) = ⊥
FillSlots (s ∷ slots) [] = ⊥
FillSlots (s ∷ slots) (p ∷ pairs) = (p.0 ≡ s.name) × (is_multifield p.1 ≡ s.is_multi) × FillSlots slots pairs

-- Where a relation has a template, its facts have the template's slots, in order; else they are ordered.
abbrev pub AreSlotsOf : Option (List SlotShape) → FactContent → Type 0
AreSlotsOf None (content.fields xs) = Unit {0}
AreSlotsOf None (content.slots pairs) = ⊥
AreSlotsOf (Some slots) (content.fields xs) = ⊥
AreSlotsOf (Some slots) (content.slots pairs) = FillSlots slots pairs

-- the fact is as its template says, or ordered
abbrev pub HasItsSlots : Templates → FactValue → Type 0
HasItsSlots templates fact = AreSlotsOf (slots_of templates fact.relation) fact.content

-- No two facts are equal, their indices rise, none comes after the index given last, and that is in range; each template is one, and
-- each fact has the slots of its template.
pub record AreWellKept (memory : Memory) (templates : Templates) : Type 0 where
  pub sound : IsSound memory
  pub in_range : memory.last ≤ greatest_index
  pub templates_are : (relation : List ℕ) (slots : List SlotShape) → slots_of templates relation ≡ Some slots → IsTemplate slots
  pub slots : (ix : ℕ) (fact : FactValue) → fact_at memory.network.facts ix ≡ Some fact → HasItsSlots templates fact
