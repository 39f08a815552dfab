-- Where no constraint takes a segment, a pattern asks each of its constraints of one field.
use Rattle.std.proofs.Common.{◌≡◌, ◌∙◌, ℕ, suc, Bool, true, false, not, List, [], ◌∷◌, ◌++◌, Option, Some, None, ap, ap₂, length, map, refl, subst, sym}
use Rattle.std.proofs.lemmas.Bool.{and_parts, not-true}
use Rattle.std.proofs.lemmas.List.{map-append}
use Rattle.std.proofs.lemmas.List.Folds.{list_all-append}
use Rattle.std.specs.List.{flat_map, list_all}
use Rattle.std.specs.Option.{option_and_then, option_map_or}
use Rattle.cb_constraints.specs.Binders.{constraints_in}
use Rattle.cb_constraints.specs.Constraints.{Constraint, Demand}
use Rattle.cb_constraints.specs.Holding.{after_demand}
use Rattle.cb_constraints.specs.PatternValues.{PatternParts, SlotValue}
use Rattle.cb_constraints.specs.PatternValues as pattern
use Rattle.cb_fit.proofs.Members.{then_some}
use Rattle.cb_fit.specs.Decided.{ones}
use Rattle.cb_exprs.specs.Bindings.{Bindings}
use Rattle.cb_facts.specs.Facts.{FactContent}
use Rattle.cb_facts.specs.Facts as fact
use Rattle.cb_facts.specs.Values.{fields_in, value_of_field}
use Rattle.cb_facts.specs.declared.single.Single.{Single}
use Rattle.cb_facts.specs.declared.value.Value.{Value}
use Rattle.cb_fit.specs.Related.{HoldInTurn, PartsFit, RowFits, SlotsFit}
use Rattle.cb_fit.specs.Ways.{after_segment, segment_value, slot_at}

-- what is asked, each with the value of which it is asked
abbrev pub Asked : Type 0
Asked = List (Demand × Value)

-- what variables have after all of it, if it holds
abbrev pub after_all : Asked → Bindings → Option Bindings
after_all [] env = Some env
after_all (a ∷ more) env = option_and_then (after_all more) (after_demand a.0 a.1 env)

-- constraints of fields, one each
abbrev pub asked_of_row : List Constraint → List Single → Asked
asked_of_row [] fs = []
asked_of_row (c ∷ cs) [] = []
asked_of_row (c ∷ cs) (f ∷ fs) = (c.demand, value_of_field f) ∷ asked_of_row cs fs

abbrev pub fields_at : ℕ → List (List ℕ × Value) → List Single
fields_at place slots = option_map_or fields_in (slot_at place slots) []

abbrev pub asked_of_slots : List SlotValue → List (List ℕ × Value) → Asked
asked_of_slots [] slots = []
asked_of_slots (s ∷ ss) slots = asked_of_row s.row (fields_at s.place slots) ++ asked_of_slots ss slots

abbrev pub asked_of : PatternParts → FactContent → Asked
asked_of (pattern.fields row) (fact.fields fs) = asked_of_row row fs
asked_of (pattern.fields row) (fact.slots ss) = []
asked_of (pattern.slots rows) (fact.fields fs) = []
asked_of (pattern.slots rows) (fact.slots ss) = asked_of_slots rows ss

-- there are as many fields as constraints
abbrev pub SlotsLong : List SlotValue → List (List ℕ × Value) → Type 0
SlotsLong [] slots = Unit {0}
SlotsLong (s ∷ ss) slots = (v : Value) × (slot_at s.place slots ≡ Some v) × (length s.row ≡ length (fields_in v)) × SlotsLong ss slots

abbrev pub AreLong : PatternParts → FactContent → Type 0
AreLong (pattern.fields row) (fact.fields fs) = length row ≡ length fs
AreLong (pattern.fields row) (fact.slots ss) = ⊥
AreLong (pattern.slots rows) (fact.fields fs) = ⊥
AreLong (pattern.slots rows) (fact.slots ss) = SlotsLong rows ss

-- none of them takes a segment
abbrev pub are_single : List Constraint → Bool
are_single cs = list_all (λ c. not c.segment) cs

pub after_both : (xs ys : Asked) (env : Bindings) → after_all (xs ++ ys) env ≡ option_and_then (after_all ys) (after_all xs env)
after_both [] ys env = refl
after_both (a ∷ more) ys env = by (after_both more ys) (after_demand a.0 a.1 env)
  where
    by : ((mid : Bindings) → after_all (more ++ ys) mid ≡ option_and_then (after_all ys) (after_all more mid)) → (o : Option Bindings)
        → option_and_then (after_all (more ++ ys)) o ≡ option_and_then (after_all ys) (option_and_then (after_all more) o)
    by h None = refl
    by h (Some mid) = h mid

-- one constraint and the field that it took
no_field : (c : Constraint) (before grown : Bindings) → c.segment ≡ false → after_segment c [] before ≡ Some grown → ⊥
no_field c before grown e h = apart (sym (ap (λ b. option_and_then (λ v. after_demand c.demand v before) (segment_value b [])) e) ∙ h)
  where
    apart : None ≡ Some grown → ⊥
    apart d = cc

one_field : (c : Constraint) (f : Single) (before grown : Bindings) → c.segment ≡ false → after_segment c (f ∷ []) before ≡ Some grown → after_demand c.demand (value_of_field f) before ≡ Some grown
one_field c f before grown e h = sym (ap (λ b. option_and_then (λ v. after_demand c.demand v before) (segment_value b (f ∷ []))) e) ∙ h

one_segment : (c : Constraint) (f : Single) (before grown : Bindings) → c.segment ≡ false → after_demand c.demand (value_of_field f) before ≡ Some grown → after_segment c (f ∷ []) before ≡ Some grown
one_segment c f before grown e h = ap (λ b. option_and_then (λ v. after_demand c.demand v before) (segment_value b (f ∷ []))) e ∙ h

two_fields : (c : Constraint) (f g : Single) (fs : List Single) (before grown : Bindings) → c.segment ≡ false → after_segment c (f ∷ g ∷ fs) before ≡ Some grown → ⊥
two_fields c f g fs before grown e h = apart (sym (ap (λ b. option_and_then (λ v. after_demand c.demand v before) (segment_value b (f ∷ g ∷ fs))) e) ∙ h)
  where
    apart : None ≡ Some grown → ⊥
    apart d = cc

-- from the fields of a row to what is asked of them, and back
abbrev RowTook : List Constraint → List Single → List ℕ → Bindings → Bindings → Type 0
RowTook cs fs cuts before after = (length cs ≡ length fs) × (cuts ≡ ones cs) × (after_all (asked_of_row cs fs) before ≡ Some after)

turn_in : (cs : List Constraint) (ss : List (List Single)) (before after : Bindings) → are_single cs ≡ true → HoldInTurn cs ss before after → RowTook cs (flat_map (λ s. s) ss) (map length ss) before after
turn_in [] [] before after e h = (refl, refl, ap Some h)
turn_in [] (s ∷ ss) before after e h = absurd h
turn_in (c ∷ cs) [] before after e h = absurd h
turn_in (c ∷ cs) ([] ∷ ss) before after e h = absurd (no_field c before h.0 (not-true c.segment (and_parts (not c.segment) (are_single cs) e).0) h.1)
turn_in (c ∷ cs) ((f ∷ []) ∷ ss) before after e h =
    let both = and_parts (not c.segment) (are_single cs) e in
    let more = turn_in cs ss h.0 after both.1 h.2 in (
      ap suc more.0,
      ap (λ (ns : List ℕ). 1 ∷ ns) more.1,
      ap (option_and_then (after_all (asked_of_row cs (flat_map (λ s. s) ss)))) (one_field c f before h.0 (not-true c.segment both.0) h.1) ∙ more.2,
    )
turn_in (c ∷ cs) ((f ∷ g ∷ fs) ∷ ss) before after e h = absurd (two_fields c f g fs before h.0 (not-true c.segment (and_parts (not c.segment) (are_single cs) e).0) h.1)

row_in : (cs : List Constraint) (fs : List Single) (cuts : List ℕ) (before after : Bindings) → are_single cs ≡ true → RowFits cs fs cuts before after → RowTook cs fs cuts before after
row_in cs fs cuts before after e h =
    subst (λ ns. RowTook cs fs ns before after) h.2 (subst (λ gs. RowTook cs gs (map length h.0) before after) h.1 (turn_in cs h.0 before after e h.3))

same_one : (a b : Bindings) → Some a ≡ Some b → a ≡ b
same_one a b d = cc

row_out : (cs : List Constraint) (fs : List Single) (before after : Bindings) → are_single cs ≡ true → length cs ≡ length fs → after_all (asked_of_row cs fs) before ≡ Some after → RowFits cs fs (ones cs) before after
row_out [] [] before after e long h = ([], refl, refl, same_one before after h)
row_out [] (f ∷ fs) before after e long h = absurd (cc)
row_out (c ∷ cs) [] before after e long h = absurd (cc)
row_out (c ∷ cs) (f ∷ fs) before after e long h =
    let both = and_parts (not c.segment) (are_single cs) e in
    let mid = then_some (after_all (asked_of_row cs fs)) (after_demand c.demand (value_of_field f) before) after h in
    let more = row_out cs fs mid.0 after both.1 (less long) mid.2 in
    ((f ∷ []) ∷ more.0, ap (λ gs. f ∷ gs) more.1, ap (λ (ns : List ℕ). 1 ∷ ns) more.2, (mid.0, one_segment c f before mid.0 (not-true c.segment both.0) mid.1, more.3))
  where
    less : suc (length cs) ≡ suc (length fs) → length cs ≡ length fs
    less d = cc

-- the same of slots
slots_in : (ss : List SlotValue) (slots : List (List ℕ × Value)) (cuts : List ℕ) (before after : Bindings) → are_single (flat_map (λ s. s.row) ss) ≡ true → SlotsFit ss slots cuts before after
    → SlotsLong ss slots × (cuts ≡ ones (flat_map (λ s. s.row) ss)) × (after_all (asked_of_slots ss slots) before ≡ Some after)
slots_in [] slots cuts before after e h = (tt, h.0, ap Some h.1)
slots_in (s ∷ ss) slots cuts before after e (v, own, others, grown, is, joined, first, rest) =
    let rows = flat_map (λ (t : SlotValue). t.row) ss in
    let both = and_parts (are_single s.row) (are_single rows) (sym (list_all-append (λ (c : Constraint). not c.segment) s.row rows) ∙ e) in
    let one = row_in s.row (fields_in v) own before grown both.0 first in
    let more = slots_in ss slots others grown after both.1 rest in
    let found : fields_at s.place slots ≡ fields_in v = ap (λ o. option_map_or fields_in o []) is in (
      (v, is, one.0, more.0),
      joined ∙ (ap₂ (λ (ms ns : List ℕ). ms ++ ns) one.1 more.1 ∙ sym (map-append (λ (c : Constraint). 1) s.row rows)),
      after_both (asked_of_row s.row (fields_at s.place slots)) (asked_of_slots ss slots) before
          ∙ (ap (λ fs. option_and_then (after_all (asked_of_slots ss slots)) (after_all (asked_of_row s.row fs) before)) found
          ∙ (ap (option_and_then (after_all (asked_of_slots ss slots))) one.2 ∙ more.2)),
    )

slots_out : (ss : List SlotValue) (slots : List (List ℕ × Value)) (before after : Bindings) → are_single (flat_map (λ s. s.row) ss) ≡ true → SlotsLong ss slots
    → after_all (asked_of_slots ss slots) before ≡ Some after → SlotsFit ss slots (ones (flat_map (λ s. s.row) ss)) before after
slots_out [] slots before after e long h = (refl, same_one before after h)
slots_out (s ∷ ss) slots before after e (v, is, long, longs) h =
    let rows = flat_map (λ (t : SlotValue). t.row) ss in
    let both = and_parts (are_single s.row) (are_single rows) (sym (list_all-append (λ (c : Constraint). not c.segment) s.row rows) ∙ e) in
    let found : fields_at s.place slots ≡ fields_in v = ap (λ o. option_map_or fields_in o []) is in
    let mid = then_some (after_all (asked_of_slots ss slots)) (after_all (asked_of_row s.row (fields_in v)) before) after
    (sym (ap (λ fs. option_and_then (after_all (asked_of_slots ss slots)) (after_all (asked_of_row s.row fs) before)) found)
    ∙ (sym (after_both (asked_of_row s.row (fields_at s.place slots)) (asked_of_slots ss slots) before) ∙ h)) in
    (v, ones s.row, ones rows, mid.0, is, map-append (λ (c : Constraint). 1) s.row rows, row_out s.row (fields_in v) before mid.0 both.0 long mid.1, slots_out ss slots mid.0 after both.1 longs mid.2)

-- and of a pattern
abbrev pub Took : PatternParts → FactContent → List ℕ → Bindings → Bindings → Type 0
Took p content cuts before after = AreLong p content × (cuts ≡ ones (constraints_in p)) × (after_all (asked_of p content) before ≡ Some after)

pub parts_in : (p : PatternParts) (content : FactContent) (cuts : List ℕ) (before after : Bindings) → are_single (constraints_in p) ≡ true → PartsFit p content cuts before after → Took p content cuts before after
parts_in (pattern.fields row) (fact.fields fs) cuts before after e h = row_in row fs cuts before after e h
parts_in (pattern.fields row) (fact.slots ss) cuts before after e h = absurd h
parts_in (pattern.slots rows) (fact.fields fs) cuts before after e h = absurd h
parts_in (pattern.slots rows) (fact.slots ss) cuts before after e h = slots_in rows ss cuts before after e h

pub parts_out : (p : PatternParts) (content : FactContent) (before after : Bindings) → are_single (constraints_in p) ≡ true → AreLong p content → after_all (asked_of p content) before ≡ Some after
    → PartsFit p content (ones (constraints_in p)) before after
parts_out (pattern.fields row) (fact.fields fs) before after e long h = row_out row fs before after e long h
parts_out (pattern.fields row) (fact.slots ss) before after e long h = absurd long
parts_out (pattern.slots rows) (fact.fields fs) before after e long h = absurd long
parts_out (pattern.slots rows) (fact.slots ss) before after e long h = slots_out rows ss before after e long h
