-- What is asked of the fields that a pattern takes alone is all that it asks, where no constraint takes a segment.
use Rattle.std.proofs.Common.{arith, ◌≡◌, ◌∙◌, ◌+◌, ℕ, zero, suc, true, not, List, [], ◌∷◌, ◌++◌, Option, Some, None, ap, ap₂, drop, flat_map, length, map, refl, sym, if◌then◌else◌}
use Rattle.std.proofs.lemmas.Bool.{and_parts, not-true}
use Rattle.std.proofs.lemmas.List.{map-append}
use Rattle.std.proofs.lemmas.List.Folds.{list_all-append}
use Rattle.std.specs.Option.{option_map_or}
use Rattle.cb_constraints.specs.Binders.{constraints_in}
use Rattle.cb_constraints.specs.Constraints.{Constraint, Demand}
use Rattle.cb_constraints.specs.PatternValues.{PatternParts, SlotValue}
use Rattle.cb_constraints.specs.PatternValues as pattern
use Rattle.cb_fit.proofs.Asked.{AreLong, SlotsLong, are_single, asked_of, asked_of_row, asked_of_slots, fields_at}
use Rattle.cb_facts.specs.Facts.{FactContent}
use Rattle.cb_facts.specs.Facts as fact
use Rattle.cb_facts.specs.Values.{fields_in}
use Rattle.cb_facts.specs.declared.single.Single.{Single}
use Rattle.cb_facts.specs.declared.value.Value.{Value}
use Rattle.cb_fit.specs.FieldPlaces.{PlacedDemand, field_at, field_value, first_field, placed_at, placed_demands, row_demands, slot_demands}

-- what is asked of a field, and the field's value, if it has one
abbrev pub AskedIf : Type 0
AskedIf = Demand × Option Value

abbrev pub placed_value : FactContent → PlacedDemand → AskedIf
placed_value content d = (d.demand, field_value d.place.slot d.place.field content)

abbrev pub with_a_value : Demand × Value → AskedIf
with_a_value a = (a.0, Some a.1)

next_drop : (n : ℕ) (fields : List Single) (f : Single) (rest : List Single) → drop n fields ≡ f ∷ rest → drop (n + 1) fields ≡ rest
next_drop n fields f rest e = ap (λ k. drop k fields) (add n) ∙ by n fields e
  where
    add : (m : ℕ) → m + 1 ≡ suc m
    add m = omega arith

    by : (m : ℕ) (fs : List Single) → drop m fs ≡ f ∷ rest → drop (suc m) fs ≡ rest
    by zero [] d = absurd (cc)
    by zero (g ∷ gs) d = cc
    by (suc m) [] d = absurd (cc)
    by (suc m) (g ∷ gs) d = by m gs d

row_placed : (slot : Option ℕ) (content : FactContent) (cs : List Constraint) (fields rest : List Single) (n : ℕ) → are_single cs ≡ true → ((m : ℕ) → field_value slot m content ≡ field_at m fields)
    → drop n fields ≡ rest → length cs ≡ length rest → map (placed_value content) (row_demands slot n cs) ≡ map with_a_value (asked_of_row cs rest)
row_placed slot content [] fields rest n e look at long = refl
row_placed slot content (c ∷ cs) fields [] n e look at long = absurd (cc)
row_placed slot content (c ∷ cs) fields (f ∷ rest) n e look at long =
    let both = and_parts (not c.segment) (are_single cs) e in
    ap (λ b. map (placed_value content) (if b then [] else placed_at slot n c.demand ∷ row_demands slot (n + 1) cs)) (not-true c.segment both.0)
    ∙ ap₂ (λ (o : Option Value) (more : List AskedIf). (c.demand, o) ∷ more) (look n ∙ ap first_field at)
    (row_placed slot content cs fields rest (n + 1) both.1 look (next_drop n fields f rest at) (less long))
  where
    less : suc (length cs) ≡ suc (length rest) → length cs ≡ length rest
    less d = cc

slots_placed : (ss : List SlotValue) (slots : List (List ℕ × Value)) → are_single (flat_map (λ s. s.row) ss) ≡ true → SlotsLong ss slots
    → map (placed_value (fact.slots slots)) (flat_map slot_demands ss) ≡ map with_a_value (asked_of_slots ss slots)
slots_placed [] slots e long = refl
slots_placed (s ∷ ss) slots e (v, is, long, longs) =
    let rows = flat_map (λ (t : SlotValue). t.row) ss in
    let both = and_parts (are_single s.row) (are_single rows) (sym (list_all-append (λ (c : Constraint). not c.segment) s.row rows) ∙ e) in
    let found : fields_at s.place slots ≡ fields_in v = ap (λ o. option_map_or fields_in o []) is in
    map-append (placed_value (fact.slots slots)) (slot_demands s) (flat_map slot_demands ss)
    ∙ (ap₂ (λ x y. x ++ y)
    (row_placed (Some s.place) (fact.slots slots) s.row (fields_in v) (fields_in v) 0 both.0 (λ m. ap (λ o. option_map_or (λ u. field_at m (fields_in u)) o None) is) refl long
    ∙ ap (λ fs. map with_a_value (asked_of_row s.row fs)) (sym found))
    (slots_placed ss slots both.1 longs)
    ∙ sym (map-append with_a_value (asked_of_row s.row (fields_at s.place slots)) (asked_of_slots ss slots)))

pub parts_placed : (p : PatternParts) (content : FactContent) → are_single (constraints_in p) ≡ true → AreLong p content
    → map (placed_value content) (placed_demands p) ≡ map with_a_value (asked_of p content)
parts_placed (pattern.fields row) (fact.fields fs) e long = row_placed None (fact.fields fs) row fs fs 0 e (λ m. refl) refl long
parts_placed (pattern.fields row) (fact.slots ss) e long = absurd long
parts_placed (pattern.slots rows) (fact.fields fs) e long = absurd long
parts_placed (pattern.slots rows) (fact.slots ss) e long = slots_placed rows ss e long

-- the constraints are asked in their order
row_asked : (cs : List Constraint) (fs : List Single) → length cs ≡ length fs → map (λ (a : Demand × Value). a.0) (asked_of_row cs fs) ≡ map (λ (c : Constraint). c.demand) cs
row_asked [] fs long = refl
row_asked (c ∷ cs) [] long = absurd (cc)
row_asked (c ∷ cs) (f ∷ fs) long = ap (λ (ds : List Demand). c.demand ∷ ds) (row_asked cs fs (less long))
  where
    less : suc (length cs) ≡ suc (length fs) → length cs ≡ length fs
    less d = cc

slots_asked : (ss : List SlotValue) (slots : List (List ℕ × Value)) → SlotsLong ss slots
    → map (λ (a : Demand × Value). a.0) (asked_of_slots ss slots) ≡ map (λ (c : Constraint). c.demand) (flat_map (λ s. s.row) ss)
slots_asked [] slots long = refl
slots_asked (s ∷ ss) slots (v, is, long, longs) =
    let found : fields_at s.place slots ≡ fields_in v = ap (λ o. option_map_or fields_in o []) is in
    map-append (λ (a : Demand × Value). a.0) (asked_of_row s.row (fields_at s.place slots)) (asked_of_slots ss slots)
    ∙ (ap₂ (λ (x y : List Demand). x ++ y)
    (ap (λ fs. map (λ (a : Demand × Value). a.0) (asked_of_row s.row fs)) found ∙ row_asked s.row (fields_in v) long) (slots_asked ss slots longs)
    ∙ sym (map-append (λ (c : Constraint). c.demand) s.row (flat_map (λ (t : SlotValue). t.row) ss)))

pub parts_asked : (p : PatternParts) (content : FactContent) → AreLong p content → map (λ (a : Demand × Value). a.0) (asked_of p content) ≡ map (λ (c : Constraint). c.demand) (constraints_in p)
parts_asked (pattern.fields row) (fact.fields fs) long = row_asked row fs long
parts_asked (pattern.fields row) (fact.slots ss) long = absurd long
parts_asked (pattern.slots rows) (fact.fields fs) long = absurd long
parts_asked (pattern.slots rows) (fact.slots ss) long = slots_asked rows ss long
