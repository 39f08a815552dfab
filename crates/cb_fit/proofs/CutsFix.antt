-- The lengths of the segments fix what variables have after a way.
use Rattle.std.proofs.Common.{◌≡◌, ◌∙◌, ℕ, List, [], ◌∷◌, ap, length, subst, sym}
use Rattle.std.proofs.lemmas.List.{length-map}
use Rattle.cb_constraints.specs.Constraints.{Constraint}
use Rattle.cb_constraints.specs.PatternValues.{PatternParts, PatternValue, SlotValue}
use Rattle.cb_constraints.specs.PatternValues as pattern
use Rattle.cb_exprs.specs.Bindings.{Bindings}
use Rattle.cb_facts.specs.Facts.{FactContent, FactValue}
use Rattle.cb_facts.specs.Facts as fact
use Rattle.cb_facts.specs.Values.{fields_in}
use Rattle.cb_facts.specs.declared.single.Single.{Single}
use Rattle.cb_facts.specs.declared.value.Value.{Value}
use Rattle.cb_fit.proofs.Segments.{as-many, same-back, same-front, same-segments, same-some}
use Rattle.cb_fit.specs.Related.{Fits, HoldInTurn, PartsFit, RowFits, SlotsFit}
use Rattle.cb_fit.specs.Ways.{after_segment, slot_at}

turn-fixed : (cs : List Constraint) (ss : List (List Single)) (before one other : Bindings) → HoldInTurn cs ss before one → HoldInTurn cs ss before other → one ≡ other
turn-fixed [] [] before one other h i = sym h ∙ i
turn-fixed [] (s ∷ ss) before one other h i = absurd h
turn-fixed (c ∷ cs) [] before one other h i = absurd h
turn-fixed (c ∷ cs) (s ∷ ss) before one other h i =
    turn-fixed cs ss i.0 one other (subst (λ g. HoldInTurn cs ss g one) (same-some (after_segment c s before) h.0 i.0 h.1 i.1) h.2) i.2

row-fixed : (cs : List Constraint) (fields : List Single) (cuts : List ℕ) (before one other : Bindings) → RowFits cs fields cuts before one → RowFits cs fields cuts before other → one ≡ other
row-fixed cs fields cuts before one other h i =
    turn-fixed cs i.0 before one other (subst (λ ss. HoldInTurn cs ss before one) (same-segments h.0 i.0 (h.2 ∙ sym i.2) (h.1 ∙ sym i.1)) h.3) i.3

-- a row has one cut for each constraint
pub cuts-as-many : (cs : List Constraint) (fields : List Single) (cuts : List ℕ) (before after : Bindings) → RowFits cs fields cuts before after → length cuts ≡ length cs
cuts-as-many cs fields cuts before after h = ap length (sym h.2) ∙ (length-map h.0 length ∙ as-many cs h.0 before after h.3)

slots-fixed : (ss : List SlotValue) (slots : List (List ℕ × Value)) (cuts : List ℕ) (before one other : Bindings) → SlotsFit ss slots cuts before one → SlotsFit ss slots cuts before other → one ≡ other
slots-fixed [] slots cuts before one other h i = sym h.1 ∙ i.1
slots-fixed (s ∷ ss) slots cuts before one other (v, own, others, grown, is, joined, first, more) (w, own', others', grown', is', joined', first', more') =
    let same = same-some (slot_at s.place slots) v w is is' in
    let long = cuts-as-many s.row (fields_in v) own before grown first ∙ sym (cuts-as-many s.row (fields_in w) own' before grown' first') in
    let both = sym joined ∙ joined' in
    let fronts = same-front own own' others others' long both in
    let backs = same-back own own' others others' long both in
    let first'' = subst (λ x. RowFits s.row (fields_in x) own before grown) same first in
    let first''' = subst (λ x. RowFits s.row (fields_in w) x before grown) fronts first'' in
    let grew = row-fixed s.row (fields_in w) own' before grown grown' first''' first' in
    slots-fixed ss slots others' grown' one other (subst (λ x. SlotsFit ss slots x grown' one) backs (subst (λ g. SlotsFit ss slots others g one) grew more)) more'

parts-fixed : (p : PatternParts) (f : FactContent) (cuts : List ℕ) (before one other : Bindings) → PartsFit p f cuts before one → PartsFit p f cuts before other → one ≡ other
parts-fixed (pattern.fields row) (fact.fields fs) cuts before one other h i = row-fixed row fs cuts before one other h i
parts-fixed (pattern.fields row) (fact.slots ss) cuts before one other h i = absurd h
parts-fixed (pattern.slots rows) (fact.fields fs) cuts before one other h i = absurd h
parts-fixed (pattern.slots rows) (fact.slots ss) cuts before one other h i = slots-fixed rows ss cuts before one other h i

pub fixed : (p : PatternValue) (f : FactValue) (cuts : List ℕ) (before one other : Bindings) → Fits p f cuts before one → Fits p f cuts before other → one ≡ other
fixed p f cuts before one other h i = parts-fixed p.parts f.content cuts before one other h.1 i.1
