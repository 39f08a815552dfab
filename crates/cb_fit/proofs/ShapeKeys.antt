-- What the pieces of a shape say: read from the last to the first, they give back what the pattern asks of a fact alone.
use Rattle.std.proofs.Common.{◌≡◌, ◌∙◌, ◌++◌, Bool, List, [], ◌∷◌, None, ap, ap₂, flat_map, map, refl, sym}
use Rattle.cb_constraints.specs.Constraints.{Test, constant, variable, predicate, return_value, Check, Demand, nothing, each, either, Constraint}
use Rattle.cb_constraints.specs.PatternValues.{PatternParts, PatternValue, SlotValue}
use Rattle.cb_constraints.specs.PatternValues as pattern
use Rattle.cb_fit.specs.Comparisons.{own_fields}
use Rattle.cb_fit.specs.ShapeKeys.{alternative_pieces, checks_pieces, constraint_pieces, demand_pieces, key_of, pieces_of, row_pieces, shape_of, slot_pieces}
use Rattle.cb_fit.specs.Shapes.{SelectionValue, constants_in, loose_constraint, loose_demand, loose_parts, loose_row, loose_slot, selection}
use Rattle.cb_fit.specs.declared.pieces.Piece.{Piece}
use Rattle.cb_fit.specs.declared.pieces.Piece.TheVariants as piece
use Rattle.cb_fit.specs.declared.shape.Shape.{Shape}

-- what was read so far: checks and alternatives whose head is still to come, the constraints of the row, and the parts
data Read : Type 0 where
  read : List Check → List (List Check) → List Constraint → PatternParts → Read

abbrev parts_in : Read → PatternParts
parts_in (read checks alternatives row parts) = parts

-- the slots with one more before them
abbrev with_slot : SlotValue → PatternParts → PatternParts
with_slot s (pattern.fields row) = pattern.slots (s ∷ [])
with_slot s (pattern.slots rows) = pattern.slots (s ∷ rows)

-- one piece more, before those that were read
abbrev step : Piece → Read → Read
step piece.Ordered (read checks alternatives row parts) = read [] [] [] (pattern.fields row)
step (piece.Slot name place) (read checks alternatives row parts) = read [] [] [] (with_slot (record { name = name; place = place; row = row }) parts)
step (piece.Wildcard segment) (read checks alternatives row parts) = read [] [] (record { segment = segment; demand = nothing } ∷ row) parts
step (piece.Each segment) (read checks alternatives row parts) = read [] [] (record { segment = segment; demand = each checks } ∷ row) parts
step (piece.Either segment) (read checks alternatives row parts) = read [] [] (record { segment = segment; demand = either None alternatives } ∷ row) parts
step piece.Alternative (read checks alternatives row parts) = read [] (checks ∷ alternatives) row parts
step (piece.Constant negated v) (read checks alternatives row parts) = read (record { negated = negated; test = constant v } ∷ checks) alternatives row parts

abbrev steps : List Piece → Read → Read
steps [] r = r
steps (p ∷ ps) r = step p (steps ps r)

steps_after : (ps qs : List Piece) (r : Read) → steps (ps ++ qs) r ≡ steps ps (steps qs r)
steps_after [] qs r = refl
steps_after (p ∷ ps) qs r = ap (step p) (steps_after ps qs r)

check-read : (negated : Bool) (t : Test) (cs : List Check) (alternatives : List (List Check)) (row : List Constraint) (parts : PatternParts)
    → steps (checks_pieces cs) (read [] alternatives row parts) ≡ read (constants_in cs) alternatives row parts
    → steps (checks_pieces (record { negated = negated; test = t } ∷ cs)) (read [] alternatives row parts) ≡ read (constants_in (record { negated = negated; test = t } ∷ cs)) alternatives row parts
check-read negated (constant v) cs alternatives row parts more = ap (step (piece.Constant negated v)) more
check-read negated (variable x) cs alternatives row parts more = more
check-read negated (predicate e) cs alternatives row parts more = more
check-read negated (return_value e) cs alternatives row parts more = more

checks-read : (cs : List Check) (alternatives : List (List Check)) (row : List Constraint) (parts : PatternParts)
    → steps (checks_pieces cs) (read [] alternatives row parts) ≡ read (constants_in cs) alternatives row parts
checks-read [] alternatives row parts = refl
checks-read (c ∷ cs) alternatives row parts = check-read c.negated c.test cs alternatives row parts (checks-read cs alternatives row parts)

alternatives-read : (alternatives : List (List Check)) (row : List Constraint) (parts : PatternParts)
    → steps (flat_map alternative_pieces alternatives) (read [] [] row parts) ≡ read [] (map constants_in alternatives) row parts
alternatives-read [] row parts = refl
alternatives-read (cs ∷ more) row parts =
    ap (step piece.Alternative)
    (steps_after (checks_pieces cs) (flat_map alternative_pieces more) (read [] [] row parts)
    ∙ ap (steps (checks_pieces cs)) (alternatives-read more row parts)
    ∙ checks-read cs (map constants_in more) row parts)

demand-read : (segment : Bool) (d : Demand) (row : List Constraint) (parts : PatternParts)
    → steps (constraint_pieces (record { segment = segment; demand = d })) (read [] [] row parts)
    ≡ read [] [] (loose_constraint (record { segment = segment; demand = d }) ∷ row) parts
demand-read segment nothing row parts = refl
demand-read segment (each cs) row parts = ap (step (piece.Each segment)) (checks-read cs [] row parts)
demand-read segment (either first alternatives) row parts = ap (step (piece.Either segment)) (alternatives-read alternatives row parts)

row-read : (row : List Constraint) (parts : PatternParts) → steps (row_pieces row) (read [] [] [] parts) ≡ read [] [] (loose_row row) parts
row-read [] parts = refl
row-read (c ∷ row) parts =
    steps_after (constraint_pieces c) (row_pieces row) (read [] [] [] parts)
    ∙ ap (steps (constraint_pieces c)) (row-read row parts)
    ∙ demand-read c.segment c.demand (loose_row row) parts

slots-read : (rows : List SlotValue) → steps (flat_map slot_pieces rows) (read [] [] [] (pattern.slots [])) ≡ read [] [] [] (pattern.slots (map loose_slot rows))
slots-read [] = refl
slots-read (s ∷ rows) =
    ap (step (piece.Slot s.name s.place))
    (steps_after (row_pieces s.row) (flat_map slot_pieces rows) (read [] [] [] (pattern.slots []))
    ∙ ap (steps (row_pieces s.row)) (slots-read rows)
    ∙ row-read s.row (pattern.slots (map loose_slot rows)))

-- the parts that pieces give back
abbrev parts_from : List Piece → PatternParts
parts_from ps = parts_in (steps ps (read [] [] [] (pattern.slots [])))

parts-read : (p : PatternParts) → parts_from (pieces_of p) ≡ loose_parts p
parts-read (pattern.fields row) = ap (λ r. parts_in (step piece.Ordered r)) (row-read row (pattern.slots []))
parts-read (pattern.slots rows) = ap parts_in (slots-read rows)

-- what a pattern asks of a fact alone that its shape gives back
abbrev selection_from : Shape → SelectionValue
selection_from s = record { shape = record { relation = s.relation; parts = parts_from s.pieces }; own = s.own }

selection-read : (p : PatternValue) → selection_from (shape_of p) ≡ selection p
selection-read p = ap (λ (parts : PatternParts). record { shape = record { relation = p.relation; parts = parts }; own = own_fields p.parts }) (parts-read p.parts)

pub one-shape : (p q : PatternValue) → shape_of p ≡ shape_of q → selection p ≡ selection q
one-shape p q e = sym (selection-read p) ∙ ap selection_from e ∙ selection-read q

-- a pattern without its variables and expressions has the same pieces
check-kept : (negated : Bool) (t : Test) (cs : List Check) → checks_pieces (constants_in cs) ≡ checks_pieces cs
    → checks_pieces (constants_in (record { negated = negated; test = t } ∷ cs)) ≡ checks_pieces (record { negated = negated; test = t } ∷ cs)
check-kept negated (constant v) cs more = ap (λ ps. piece.Constant negated v ∷ ps) more
check-kept negated (variable x) cs more = more
check-kept negated (predicate e) cs more = more
check-kept negated (return_value e) cs more = more

checks-kept : (cs : List Check) → checks_pieces (constants_in cs) ≡ checks_pieces cs
checks-kept [] = refl
checks-kept (c ∷ cs) = check-kept c.negated c.test cs (checks-kept cs)

alternatives-kept : (alternatives : List (List Check)) → flat_map alternative_pieces (map constants_in alternatives) ≡ flat_map alternative_pieces alternatives
alternatives-kept [] = refl
alternatives-kept (cs ∷ more) = ap₂ (λ ps qs. (piece.Alternative ∷ ps) ++ qs) (checks-kept cs) (alternatives-kept more)

demand-kept : (segment : Bool) (d : Demand) → demand_pieces segment (loose_demand d) ≡ demand_pieces segment d
demand-kept segment nothing = refl
demand-kept segment (each cs) = ap (λ ps. piece.Each segment ∷ ps) (checks-kept cs)
demand-kept segment (either first alternatives) = ap (λ ps. piece.Either segment ∷ ps) (alternatives-kept alternatives)

row-kept : (row : List Constraint) → row_pieces (loose_row row) ≡ row_pieces row
row-kept [] = refl
row-kept (c ∷ row) = ap₂ (λ ps qs. ps ++ qs) (demand-kept c.segment c.demand) (row-kept row)

slots-kept : (rows : List SlotValue) → flat_map slot_pieces (map loose_slot rows) ≡ flat_map slot_pieces rows
slots-kept [] = refl
slots-kept (s ∷ rows) = ap₂ (λ ps qs. (piece.Slot s.name s.place ∷ ps) ++ qs) (row-kept s.row) (slots-kept rows)

parts-kept : (p : PatternParts) → pieces_of (loose_parts p) ≡ pieces_of p
parts-kept (pattern.fields row) = ap (λ ps. piece.Ordered ∷ ps) (row-kept row)
parts-kept (pattern.slots rows) = slots-kept rows

pub selection-key : (p : PatternValue) → key_of (selection p) ≡ shape_of p
selection-key p = ap (λ ps. record { relation = p.relation; own = own_fields p.parts; pieces = ps }) (parts-kept p.parts)
