-- `==` of shapes is equality, and shapes that tie in their order are equal.
use Rattle.std.proofs.Common.{◌≡◌, ◌∙◌, List, ℕ, Equal, ap, ap₂, is_eq, rules, subst}
use Rattle.std.proofs.lemmas.Bool.{and_from}
use Rattle.std.specs.Bool.{Decides}
use Rattle.std.specs.Cmp.{first_so, second_so, tied_itself}
use Rattle.std.specs.Cmp.Lexicographic.{pointwise, pointwise_decides, bytes_decides}
use Rattle.std.specs.Cmp.Rules.{hashing}
use Rattle.cb_facts.proofs.Equality.{value-Decides}
use Rattle.cb_fit.specs.contracts.own_field.OperandPartialEq.TheImpl as operand_eq
use Rattle.cb_fit.specs.contracts.own_field.OwnFieldPartialEq.TheImpl as own_eq
use Rattle.cb_fit.specs.contracts.pieces.PiecePartialEq.TheImpl as piece_eq
use Rattle.cb_fit.specs.contracts.shape.ShapeOrd.TheImpl as shape_ord
use Rattle.cb_fit.specs.contracts.shape.ShapeOrd.TheImpl.Laws as shape_laws
use Rattle.cb_fit.specs.contracts.shape.ShapePartialEq.TheImpl as shape_eq
use Rattle.cb_fit.specs.declared.own_field.Operand.{Operand}
use Rattle.cb_fit.specs.declared.own_field.Operand.TheVariants as operand
use Rattle.cb_fit.specs.declared.own_field.OwnField.{OwnField}
use Rattle.cb_fit.specs.declared.pieces.Piece.{Piece}
use Rattle.cb_fit.specs.declared.pieces.Piece.TheVariants as piece
use Rattle.cb_fit.specs.declared.shape.Shape.{Shape}

operand-Decides : (a b : Operand) → Decides (operand_eq.ghosts.eq a b) (a ≡ b)
operand-Decides (operand.Field a) (operand.Field b) = search (hashing, rules)
operand-Decides (operand.Field a) (operand.Constant w) = search (hashing, rules)
operand-Decides (operand.Constant v) (operand.Field b) = search (hashing, rules)
operand-Decides (operand.Constant v) (operand.Constant w) = search (hashing, rules, value-Decides v w)

piece-Decides : (p q : Piece) → Decides (piece_eq.ghosts.eq p q) (p ≡ q)
piece-Decides piece.Ordered piece.Ordered = search (hashing, rules)
piece-Decides piece.Ordered (piece.Slot m j) = search (hashing, rules)
piece-Decides piece.Ordered (piece.Wildcard t) = search (hashing, rules)
piece-Decides piece.Ordered (piece.Each t) = search (hashing, rules)
piece-Decides piece.Ordered (piece.Either t) = search (hashing, rules)
piece-Decides piece.Ordered piece.Alternative = search (hashing, rules)
piece-Decides piece.Ordered (piece.Constant m w) = search (hashing, rules)
piece-Decides (piece.Slot n i) piece.Ordered = search (hashing, rules)
piece-Decides (piece.Slot n i) (piece.Slot m j) = search (hashing, rules)
piece-Decides (piece.Slot n i) (piece.Wildcard t) = search (hashing, rules)
piece-Decides (piece.Slot n i) (piece.Each t) = search (hashing, rules)
piece-Decides (piece.Slot n i) (piece.Either t) = search (hashing, rules)
piece-Decides (piece.Slot n i) piece.Alternative = search (hashing, rules)
piece-Decides (piece.Slot n i) (piece.Constant m w) = search (hashing, rules)
piece-Decides (piece.Wildcard s) piece.Ordered = search (hashing, rules)
piece-Decides (piece.Wildcard s) (piece.Slot m j) = search (hashing, rules)
piece-Decides (piece.Wildcard s) (piece.Wildcard t) = search (hashing, rules)
piece-Decides (piece.Wildcard s) (piece.Each t) = search (hashing, rules)
piece-Decides (piece.Wildcard s) (piece.Either t) = search (hashing, rules)
piece-Decides (piece.Wildcard s) piece.Alternative = search (hashing, rules)
piece-Decides (piece.Wildcard s) (piece.Constant m w) = search (hashing, rules)
piece-Decides (piece.Each s) piece.Ordered = search (hashing, rules)
piece-Decides (piece.Each s) (piece.Slot m j) = search (hashing, rules)
piece-Decides (piece.Each s) (piece.Wildcard t) = search (hashing, rules)
piece-Decides (piece.Each s) (piece.Each t) = search (hashing, rules)
piece-Decides (piece.Each s) (piece.Either t) = search (hashing, rules)
piece-Decides (piece.Each s) piece.Alternative = search (hashing, rules)
piece-Decides (piece.Each s) (piece.Constant m w) = search (hashing, rules)
piece-Decides (piece.Either s) piece.Ordered = search (hashing, rules)
piece-Decides (piece.Either s) (piece.Slot m j) = search (hashing, rules)
piece-Decides (piece.Either s) (piece.Wildcard t) = search (hashing, rules)
piece-Decides (piece.Either s) (piece.Each t) = search (hashing, rules)
piece-Decides (piece.Either s) (piece.Either t) = search (hashing, rules)
piece-Decides (piece.Either s) piece.Alternative = search (hashing, rules)
piece-Decides (piece.Either s) (piece.Constant m w) = search (hashing, rules)
piece-Decides piece.Alternative piece.Ordered = search (hashing, rules)
piece-Decides piece.Alternative (piece.Slot m j) = search (hashing, rules)
piece-Decides piece.Alternative (piece.Wildcard t) = search (hashing, rules)
piece-Decides piece.Alternative (piece.Each t) = search (hashing, rules)
piece-Decides piece.Alternative (piece.Either t) = search (hashing, rules)
piece-Decides piece.Alternative piece.Alternative = search (hashing, rules)
piece-Decides piece.Alternative (piece.Constant m w) = search (hashing, rules)
piece-Decides (piece.Constant n v) piece.Ordered = search (hashing, rules)
piece-Decides (piece.Constant n v) (piece.Slot m j) = search (hashing, rules)
piece-Decides (piece.Constant n v) (piece.Wildcard t) = search (hashing, rules)
piece-Decides (piece.Constant n v) (piece.Each t) = search (hashing, rules)
piece-Decides (piece.Constant n v) (piece.Either t) = search (hashing, rules)
piece-Decides (piece.Constant n v) piece.Alternative = search (hashing, rules)
piece-Decides (piece.Constant n v) (piece.Constant m w) = search (hashing, rules, value-Decides v w)

pieces-Decides : (ps qs : List Piece) → Decides (pointwise piece_eq.ghosts.eq ps qs) (ps ≡ qs)
pieces-Decides ps qs = pointwise_decides piece-Decides ps qs

own-Decides : (a b : OwnField) → Decides (own_eq.ghosts.eq a b) (a ≡ b)
own-Decides a b = search (hashing, rules, operand-Decides a.other b.other)

owns-Decides : (os ps : List OwnField) → Decides (pointwise own_eq.ghosts.eq os ps) (os ≡ ps)
owns-Decides os ps = pointwise_decides own-Decides os ps

shape-same : (s t : Shape) → s.relation ≡ t.relation → s.own ≡ t.own → s.pieces ≡ t.pieces → s ≡ t
shape-same s t e f g =
    ap₂ (λ (r : List ℕ) (os : List OwnField). record { relation = r; own = os; pieces = s.pieces }) e f
    ∙ ap (λ (ps : List Piece). record { relation = t.relation; own = t.own; pieces = ps }) g

pub shape-Decides : (s t : Shape) → Decides (shape_eq.ghosts.eq s t) (s ≡ t)
shape-Decides s t = (
  λ e. shape-same s t
      ((bytes_decides s.relation t.relation).0 (first_so _ _ e))
      ((owns-Decides s.own t.own).0 (first_so _ _ (second_so _ _ e)))
      ((pieces-Decides s.pieces t.pieces).0 (second_so _ _ (second_so _ _ e))),
  λ e. and_from _ _ ((bytes_decides s.relation t.relation).1 (ap (λ (u : Shape). u.relation) e))
      (and_from _ _ ((owns-Decides s.own t.own).1 (ap (λ (u : Shape). u.own) e)) ((pieces-Decides s.pieces t.pieces).1 (ap (λ (u : Shape). u.pieces) e))),
)

pub shapes_exact : (s t : Shape) → shape_ord.ghosts.cmp s t ≡ Equal → s ≡ t
shapes_exact s t h = (shape-Decides s t).0 (shape_laws.matches_eq-law s t ∙ ap is_eq h)

pub shapes_level : (s t : Shape) → s ≡ t → shape_ord.ghosts.cmp s t ≡ Equal
shapes_level s t e = subst (λ it. shape_ord.ghosts.cmp s it ≡ Equal) e (tied_itself shape_laws.total-law s)
