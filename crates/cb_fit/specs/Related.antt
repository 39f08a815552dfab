-- When a pattern fits a fact: the condition alone, with no search for the segments.
use Rattle.std.specs.Prelude.{◌≡◌, ℕ, List, [], ◌∷◌, ◌++◌, Some, map, length, flat_map}
use Rattle.cb_constraints.specs.Constraints.{Constraint}
use Rattle.cb_constraints.specs.PatternValues.{PatternParts, PatternValue, SlotValue}
use Rattle.cb_constraints.specs.PatternValues as pattern
use Rattle.cb_exprs.specs.Bindings.{Bindings}
use Rattle.cb_facts.specs.Facts.{FactContent, FactValue}
use Rattle.cb_facts.specs.Facts as fact
use Rattle.cb_facts.specs.Values.{fields_in}
use Rattle.cb_facts.specs.declared.single.Single.{Single}
use Rattle.cb_facts.specs.declared.value.Value.{Value}
use Rattle.cb_fit.specs.Ways.{after_segment, slot_at}

-- there are as many segments as constraints, and each constraint holds of the segment in its place and sees what variables have
-- after those before it
abbrev pub HoldInTurn : List Constraint → List (List Single) → Bindings → Bindings → Type 0
HoldInTurn [] [] before after = before ≡ after
HoldInTurn [] (s ∷ ss) before after = ⊥
HoldInTurn (c ∷ cs) [] before after = ⊥
HoldInTurn (c ∷ cs) (s ∷ ss) before after = (grown : Bindings) × (after_segment c s before ≡ Some grown) × HoldInTurn cs ss grown after

-- the fields are the joining of segments of these lengths, one for each constraint of the row, of which they hold in turn
abbrev pub RowFits : List Constraint → List Single → List ℕ → Bindings → Bindings → Type 0
RowFits row fields cuts before after =
    (segments : List (List Single)) × (flat_map (λ s. s) segments ≡ fields) × (map length segments ≡ cuts) × HoldInTurn row segments before after

-- each row fits the fields of its slot, and sees what variables have after those before it
abbrev pub SlotsFit : List SlotValue → List (List ℕ × Value) → List ℕ → Bindings → Bindings → Type 0
SlotsFit [] slots cuts before after = (cuts ≡ []) × (before ≡ after)
SlotsFit (s ∷ ss) slots cuts before after =
    (v : Value) × (own others : List ℕ) × (grown : Bindings)
    × (slot_at s.place slots ≡ Some v) × (cuts ≡ own ++ others)
    × RowFits s.row (fields_in v) own before grown × SlotsFit ss slots others grown after

-- The row or the slots of a pattern fit a fact's content, with segments of these lengths: fields for a row,
-- slots for slots.
abbrev pub PartsFit : PatternParts → FactContent → List ℕ → Bindings → Bindings → Type 0
PartsFit (pattern.fields row) (fact.fields fs) cuts before after = RowFits row fs cuts before after
PartsFit (pattern.fields row) (fact.slots ss) cuts before after = ⊥
PartsFit (pattern.slots rows) (fact.fields fs) cuts before after = ⊥
PartsFit (pattern.slots rows) (fact.slots ss) cuts before after = SlotsFit rows ss cuts before after

-- the pattern fits the fact with segments of these lengths, and variables have these values before and after
abbrev pub Fits : PatternValue → FactValue → List ℕ → Bindings → Bindings → Type 0
Fits p f cuts before after = (p.relation ≡ f.relation) × PartsFit p.parts f.content cuts before after
