-- What a pattern asks without its variables and expressions, where no constraint takes a segment.
use Rattle.std.proofs.Common.{◌≡◌, ◌∙◌, ◌&&◌, ℕ, Bool, true, false, not, List, [], ◌∷◌, ◌++◌, Some, ap, ap₂, flat_map, map, refl, sym}
use Rattle.std.proofs.lemmas.List.{length-map, map-append}
use Rattle.std.proofs.lemmas.List.Folds.{list_all-map}
use Rattle.std.specs.List.{list_all}
use Rattle.cb_constraints.specs.Binders.{constraints_in}
use Rattle.cb_constraints.specs.Constraints.{Constraint, Demand}
use Rattle.cb_constraints.specs.Holding.{after_demand, may_hold, provided}
use Rattle.cb_constraints.specs.PatternValues.{PatternParts, SlotValue}
use Rattle.cb_constraints.specs.PatternValues as pattern
use Rattle.cb_fit.proofs.Asked.{AreLong, Asked, SlotsLong, after_all, are_single, asked_of, asked_of_row, asked_of_slots, fields_at}
use Rattle.cb_fit.proofs.Members.{then_some}
use Rattle.cb_fit.specs.Decided.{ones}
use Rattle.cb_exprs.specs.Bindings.{Bindings}
use Rattle.cb_facts.specs.Facts.{FactContent}
use Rattle.cb_facts.specs.Facts as fact
use Rattle.cb_facts.specs.Values.{value_of_field}
use Rattle.cb_facts.specs.declared.single.Single.{Single}
use Rattle.cb_facts.specs.declared.value.Value.{Value}
use Rattle.cb_fit.specs.Shapes.{loose_constraint, loose_demand, loose_parts, loose_row, loose_slot}

-- what is asked loosely of a value
abbrev pub loosened : Demand × Value → Demand × Value
loosened a = (loose_demand a.0, a.1)

rows_loose : (rows : List SlotValue) → flat_map (λ s. s.row) (map loose_slot rows) ≡ loose_row (flat_map (λ s. s.row) rows)
rows_loose [] = refl
rows_loose (s ∷ rows) = ap (λ more. loose_row s.row ++ more) (rows_loose rows) ∙ sym (map-append loose_constraint s.row (flat_map (λ (t : SlotValue). t.row) rows))

constraints_loose : (p : PatternParts) → constraints_in (loose_parts p) ≡ loose_row (constraints_in p)
constraints_loose (pattern.fields row) = refl
constraints_loose (pattern.slots rows) = rows_loose rows

pub single_loose : (p : PatternParts) → are_single (constraints_in p) ≡ true → are_single (constraints_in (loose_parts p)) ≡ true
single_loose p e = ap are_single (constraints_loose p) ∙ (list_all-map (λ (c : Constraint). not c.segment) loose_constraint (constraints_in p) ∙ e)

one_each : (cs : List Constraint) → ones (loose_row cs) ≡ ones cs
one_each [] = refl
one_each (c ∷ cs) = ap (λ (ns : List ℕ). 1 ∷ ns) (one_each cs)

pub ones_loose : (p : PatternParts) → ones (constraints_in (loose_parts p)) ≡ ones (constraints_in p)
ones_loose p = ap ones (constraints_loose p) ∙ one_each (constraints_in p)

slots_long : (rows : List SlotValue) (slots : List (List ℕ × Value)) → SlotsLong (map loose_slot rows) slots → SlotsLong rows slots
slots_long [] slots h = tt
slots_long (s ∷ rows) slots (v, is, long, more) = (v, is, sym (length-map s.row loose_constraint) ∙ long, slots_long rows slots more)

pub long_loose : (p : PatternParts) (content : FactContent) → AreLong (loose_parts p) content → AreLong p content
long_loose (pattern.fields row) (fact.fields fs) h = sym (length-map row loose_constraint) ∙ h
long_loose (pattern.fields row) (fact.slots ss) h = absurd h
long_loose (pattern.slots rows) (fact.fields fs) h = absurd h
long_loose (pattern.slots rows) (fact.slots ss) h = slots_long rows ss h

row_asked : (cs : List Constraint) (fs : List Single) → asked_of_row (loose_row cs) fs ≡ map loosened (asked_of_row cs fs)
row_asked [] fs = refl
row_asked (c ∷ cs) [] = refl
row_asked (c ∷ cs) (f ∷ fs) = ap (λ (more : Asked). (loose_demand c.demand, value_of_field f) ∷ more) (row_asked cs fs)

slots_asked : (rows : List SlotValue) (slots : List (List ℕ × Value)) → asked_of_slots (map loose_slot rows) slots ≡ map loosened (asked_of_slots rows slots)
slots_asked [] slots = refl
slots_asked (s ∷ rows) slots =
    ap₂ (λ (x y : Asked). x ++ y) (row_asked s.row (fields_at s.place slots)) (slots_asked rows slots)
    ∙ sym (map-append loosened (asked_of_row s.row (fields_at s.place slots)) (asked_of_slots rows slots))

pub asked_loose : (p : PatternParts) (content : FactContent) → asked_of (loose_parts p) content ≡ map loosened (asked_of p content)
asked_loose (pattern.fields row) (fact.fields fs) = row_asked row fs
asked_loose (pattern.fields row) (fact.slots ss) = refl
asked_loose (pattern.slots rows) (fact.fields fs) = refl
asked_loose (pattern.slots rows) (fact.slots ss) = slots_asked rows ss

-- a constraint without its variables and expressions holds where its constants do
abbrev pub HoldsLoosely : Type 0
HoldsLoosely = (d : Demand) (v : Value) (env : Bindings) → after_demand (loose_demand d) v env ≡ provided (may_hold d v) env

provided_if : (t : Bool) (env grown : Bindings) → provided t env ≡ Some grown → t ≡ true
provided_if true env grown e = refl
provided_if false env grown e = absurd (cc)

pub all_may : HoldsLoosely → (asked : Asked) (env grown : Bindings) → after_all (map loosened asked) env ≡ Some grown → list_all (λ (a : Demand × Value). may_hold a.0 a.1) asked ≡ true
all_may loosely [] env grown e = refl
all_may loosely (a ∷ more) env grown e =
    let mid = then_some (after_all (map loosened more)) (after_demand (loose_demand a.0) a.1 env) grown e in
    ap₂ (λ s t. s && t) (provided_if (may_hold a.0 a.1) env mid.0 (sym (loosely a.0 a.1 env) ∙ mid.1)) (all_may loosely more mid.0 grown mid.2)
