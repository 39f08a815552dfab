-- The key of what a pattern asks of a fact alone is the shape of the pattern.
use Rattle.std.proofs.Common.{◌≡◌, ◌++◌, ℕ, Bool, List, [], ◌∷◌, ap, ap₂, flat_map, map, refl}
use Rattle.cb_constraints.specs.Constraints.{Test, constant, variable, predicate, return_value, Check, Demand, nothing, each, either, Constraint}
use Rattle.cb_constraints.specs.PatternValues.{PatternParts, PatternValue, SlotValue}
use Rattle.cb_constraints.specs.PatternValues as pattern
use Rattle.cb_fit.specs.Comparisons.{own_fields}
use Rattle.cb_fit.specs.ShapeKeys.{alternative_pieces, checks_pieces, demand_pieces, key_of, pieces_of, row_pieces, shape_of, slot_pieces}
use Rattle.cb_fit.specs.Shapes.{constants_in, loose_demand, loose_parts, loose_row, loose_slot, selection}
use Rattle.cb_fit.specs.declared.own_field.OwnField.{OwnField}
use Rattle.cb_fit.specs.declared.pieces.Piece.{Piece}
use Rattle.cb_fit.specs.declared.pieces.Piece.TheVariants as piece
use Rattle.cb_fit.specs.declared.shape.Shape.{Shape}

check_kept : (negated : Bool) (t : Test) (cs : List Check) → checks_pieces (constants_in cs) ≡ checks_pieces cs
    → checks_pieces (constants_in (record { negated = negated; test = t } ∷ cs)) ≡ checks_pieces (record { negated = negated; test = t } ∷ cs)
check_kept negated (constant v) cs more = ap (λ (ps : List Piece). piece.Constant negated v ∷ ps) more
check_kept negated (variable x) cs more = more
check_kept negated (predicate e) cs more = more
check_kept negated (return_value e) cs more = more

checks_kept : (cs : List Check) → checks_pieces (constants_in cs) ≡ checks_pieces cs
checks_kept [] = refl
checks_kept (c ∷ cs) = check_kept c.negated c.test cs (checks_kept cs)

alternatives_kept : (alternatives : List (List Check)) → flat_map alternative_pieces (map constants_in alternatives) ≡ flat_map alternative_pieces alternatives
alternatives_kept [] = refl
alternatives_kept (cs ∷ more) =
    ap₂ (λ (ps : List Piece) (qs : List Piece). piece.Alternative ∷ (ps ++ qs)) (checks_kept cs) (alternatives_kept more)

demand_kept : (segment : Bool) (d : Demand) → demand_pieces segment (loose_demand d) ≡ demand_pieces segment d
demand_kept segment nothing = refl
demand_kept segment (each cs) = ap (λ (ps : List Piece). piece.Each segment ∷ ps) (checks_kept cs)
demand_kept segment (either first alternatives) = ap (λ (ps : List Piece). piece.Either segment ∷ ps) (alternatives_kept alternatives)

row_kept : (row : List Constraint) → row_pieces (loose_row row) ≡ row_pieces row
row_kept [] = refl
row_kept (c ∷ row) = ap₂ (λ (ps : List Piece) (qs : List Piece). ps ++ qs) (demand_kept c.segment c.demand) (row_kept row)

slots_kept : (rows : List SlotValue) → flat_map slot_pieces (map loose_slot rows) ≡ flat_map slot_pieces rows
slots_kept [] = refl
slots_kept (s ∷ rows) = ap₂ (λ (ps : List Piece) (qs : List Piece). piece.Slot s.name s.place ∷ (ps ++ qs)) (row_kept s.row) (slots_kept rows)

parts_kept : (p : PatternParts) → pieces_of (loose_parts p) ≡ pieces_of p
parts_kept (pattern.fields row) = ap (λ (ps : List Piece). piece.Ordered ∷ ps) (row_kept row)
parts_kept (pattern.slots rows) = slots_kept rows

shape_with : List ℕ → List OwnField → List Piece → Shape
shape_with r os ps = record { relation = r; own = os; pieces = ps }

pub selection_key : (p : PatternValue) → key_of (selection p) ≡ shape_of p
unfolding shape_with
selection_key p = ap (shape_with p.relation (own_fields p.parts)) (parts_kept p.parts)
