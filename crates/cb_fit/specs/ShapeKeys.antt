-- The shape of a pattern as a flat list of pieces, by which patterns that ask the same by constants and lengths are found.
use Rattle.std.specs.Prelude.{Bool, List, [], ◌∷◌, flat_map}
use Rattle.cb_constraints.specs.Constraints.{Test, constant, variable, predicate, return_value, Check, Demand, nothing, each, either, Constraint}
use Rattle.cb_constraints.specs.PatternValues.{PatternParts, fields, slots, PatternValue, SlotValue}
use Rattle.cb_fit.specs.Comparisons.{own_fields}
use Rattle.cb_fit.specs.Shapes.{SelectionValue}
use Rattle.cb_fit.specs.declared.pieces.Piece.{Piece}
use Rattle.cb_fit.specs.declared.pieces.Piece.TheVariants as piece
use Rattle.cb_fit.specs.declared.shape.Shape.{Shape}

-- the piece of a check for a constant; a variable or an expression has none
abbrev pub check_pieces : Bool → Test → List Piece
check_pieces negated (constant v) = piece.Constant negated v ∷ []
check_pieces negated (variable x) = []
check_pieces negated (predicate e) = []
check_pieces negated (return_value e) = []

-- those of checks joined by `&`
abbrev pub checks_pieces : List Check → List Piece
checks_pieces cs = flat_map (λ c. check_pieces c.negated c.test) cs

-- those of an alternative, after its head
abbrev pub alternative_pieces : List Check → List Piece
alternative_pieces cs = piece.Alternative ∷ checks_pieces cs

-- Those of a constraint, by whether it takes a segment and what it asks. A variable that is set apart before alternatives has none.
abbrev pub demand_pieces : Bool → Demand → List Piece
demand_pieces segment nothing = piece.Wildcard segment ∷ []
demand_pieces segment (each cs) = piece.Each segment ∷ checks_pieces cs
demand_pieces segment (either first alternatives) = piece.Either segment ∷ flat_map alternative_pieces alternatives

-- the same of the whole constraint
abbrev pub constraint_pieces : Constraint → List Piece
constraint_pieces c = demand_pieces c.segment c.demand

-- those of the constraints of a row
abbrev pub row_pieces : List Constraint → List Piece
row_pieces row = flat_map constraint_pieces row

-- those of a slot, after its head
abbrev pub slot_pieces : SlotValue → List Piece
slot_pieces s = piece.Slot s.name s.place ∷ row_pieces s.row

-- Those of all that a pattern asks.
abbrev pub pieces_of : PatternParts → List Piece
pieces_of (fields row) = piece.Ordered ∷ row_pieces row
pieces_of (slots rows) = flat_map slot_pieces rows

-- the key of what a pattern asks of a fact alone
abbrev pub key_of : SelectionValue → Shape
key_of s = record { relation = s.shape.relation; own = s.own; pieces = pieces_of s.shape.parts }

-- the shape of a pattern, with the fields that it compares with constants and with one another
abbrev pub shape_of : PatternValue → Shape
shape_of p = record { relation = p.relation; own = own_fields p.parts; pieces = pieces_of p.parts }
