-- A pattern that stands alone is the same without its variables and expressions.
use Rattle.std.proofs.Common.{◌≡◌, ◌∷◌, Bool, true, false, List, [], None, Some, ap, ap₂, cond, map, refl, ◌∙◌}
use Rattle.std.specs.List.{list_all}
use Rattle.cb_constraints.specs.Constraints.{Check, Demand, nothing, each, either, Constraint}
use Rattle.cb_constraints.specs.Holding.{is_constant}
use Rattle.cb_constraints.specs.PatternValues.{PatternParts, PatternValue, SlotValue}
use Rattle.cb_constraints.specs.PatternValues as pattern
use Rattle.cb_fit.proofs.WithoutVariables.{both-true}
use Rattle.cb_fit.specs.Shapes.{constants_in, loose, loose_constraint, loose_demand, loose_parts, loose_row, loose_slot}
use Rattle.cb_fit.specs.StandsAlone.{are_constants, demand_alone, parts_alone, row_alone, slot_alone, stands_alone}

-- what leaves each of a list as it is leaves the list
all_stay : {X : Type 0} (f : X → X) (t : X → Bool) → ((x : X) → t x ≡ true → f x ≡ x) → (xs : List X) → list_all t xs ≡ true → map f xs ≡ xs
all_stay f t h [] e = refl
all_stay f t h (x ∷ xs) e = let b = both-true (t x) (list_all t xs) e in ap₂ (λ y ys. y ∷ ys) (h x b.0) (all_stay f t h xs b.1)

checks-stay : (cs : List Check) → are_constants cs ≡ true → constants_in cs ≡ cs
checks-stay [] e = refl
checks-stay (c ∷ cs) e =
    let b = both-true (is_constant c.test) (are_constants cs) e in
    ap (λ t. cond t (c ∷ constants_in cs) (constants_in cs)) b.0 ∙ ap (λ (it : List Check). c ∷ it) (checks-stay cs b.1)

pub demand-stays : (d : Demand) → demand_alone d ≡ true → loose_demand d ≡ d
demand-stays nothing e = refl
demand-stays (each cs) e = ap each (checks-stay cs e)
demand-stays (either None alternatives) e = ap (either None) (all_stay constants_in are_constants checks-stay alternatives e)
demand-stays (either (Some x) alternatives) e = let never : false ≡ true = e in cc

constraint-stays : (c : Constraint) → demand_alone c.demand ≡ true → loose_constraint c ≡ c
constraint-stays c e = ap (λ d. record { segment = c.segment; demand = d }) (demand-stays c.demand e)

row-stays : (row : List Constraint) → row_alone row ≡ true → loose_row row ≡ row
row-stays row e = all_stay loose_constraint (λ c. demand_alone c.demand) constraint-stays row e

slot-stays : (s : SlotValue) → slot_alone s ≡ true → loose_slot s ≡ s
slot-stays s e = ap (λ row. record { name = s.name; place = s.place; row = row }) (row-stays s.row e)

parts-stay : (p : PatternParts) → parts_alone p ≡ true → loose_parts p ≡ p
parts-stay (pattern.fields row) e = ap pattern.fields (row-stays row e)
parts-stay (pattern.slots rows) e = ap pattern.slots (all_stay loose_slot slot_alone slot-stays rows e)

pub shape-is : (p : PatternValue) → stands_alone p ≡ true → loose p ≡ p
shape-is p e = ap (λ parts. record { relation = p.relation; parts = parts }) (parts-stay p.parts e)
