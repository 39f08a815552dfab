-- How the logic stores rules, and elements: as the pieces that they are put together from, each after its parts.
use Rattle.std.specs.Prelude.{◌≡◌, ◌⊎◌, ℕ, ℤ, Bool, true, false, List, [], ◌∷◌, Option, refl}
use Rattle.std.proofs.Common.{inl, inr, ◌∙◌, ap}
use Rattle.std.specs.Coded.{Coded, code_by, coded_bool, coded_list, coded_option, coded_ℕ, coded_ℤ, coded×, coded⊎}
use Rattle.cb_constraints.specs.Internal.Codes.{pattern_code}
use Rattle.cb_constraints.specs.PatternValues.{PatternValue}
use Rattle.cb_rules.specs.Elements.{Element, pattern, test, group, Elements, no_elements, element}
use Rattle.cb_exprs.specs.Internal.Codes.{Piece, term_code, terms_code}
use Rattle.cb_exprs.specs.Terms.{Term, Terms}
use Rattle.cb_facts.specs.declared.value.Value.{Value}
use Rattle.cb_rules.specs.RuleInfos.{RuleInfo}

-- a pattern, a test, a group, or the end of a list or one more element of it
abbrev pub ElementPiece : Type 0
ElementPiece = (Option (List ℕ) × PatternValue) ⊎ (Term ⊎ (Bool ⊎ Bool))

-- the pieces of an element, before others
abbrev mutual
  pub element_pieces : Element → List ElementPiece → List ElementPiece
  element_pieces (pattern x p) rest = inl (x, p) ∷ rest
  element_pieces (test t) rest = inr (inl t) ∷ rest
  element_pieces (group positive es) rest = pieces_of_all es (inr (inr (inl positive)) ∷ rest)

  pub pieces_of_all : Elements → List ElementPiece → List ElementPiece
  pieces_of_all no_elements rest = inr (inr (inr false)) ∷ rest
  pieces_of_all (element e es) rest = element_pieces e (pieces_of_all es (inr (inr (inr true)) ∷ rest))

-- the elements and the lists of elements that are put together so far, the last first
pub record Assembled : Type 0 where
  pub ones : List Element
  pub lists : List Elements

-- a piece takes its parts, which are the last that were put together
abbrev with_piece : ElementPiece → List Element → List Elements → Assembled
with_piece (inl q) ones lists = record { ones = pattern q.0 q.1 ∷ ones; lists = lists }
with_piece (inr (inl t)) ones lists = record { ones = test t ∷ ones; lists = lists }
with_piece (inr (inr (inl positive))) ones (es ∷ lists) = record { ones = group positive es ∷ ones; lists = lists }
with_piece (inr (inr (inr false))) ones lists = record { ones = ones; lists = no_elements ∷ lists }
with_piece (inr (inr (inr true))) (e ∷ ones) (es ∷ lists) = record { ones = ones; lists = element e es ∷ lists }
with_piece p ones lists = record { ones = ones; lists = lists }

abbrev put_together : List ElementPiece → List Element → List Elements → Assembled
put_together [] ones lists = record { ones = ones; lists = lists }
put_together (p ∷ ps) ones lists = put_together ps (with_piece p ones lists).ones (with_piece p ones lists).lists

mutual
  one_is : (e : Element) (rest : List ElementPiece) (ones : List Element) (lists : List Elements) → put_together (element_pieces e rest) ones lists ≡ put_together rest (e ∷ ones) lists
  one_is (pattern x p) rest ones lists = refl
  one_is (test t) rest ones lists = refl
  one_is (group positive es) rest ones lists = all_are es (inr (inr (inl positive)) ∷ rest) ones lists

  all_are : (es : Elements) (rest : List ElementPiece) (ones : List Element) (lists : List Elements) → put_together (pieces_of_all es rest) ones lists ≡ put_together rest ones (es ∷ lists)
  all_are no_elements rest ones lists = refl
  all_are (element e es) rest ones lists = one_is e (pieces_of_all es (inr (inr (inr true)) ∷ rest)) ones lists ∙ all_are es (inr (inr (inr true)) ∷ rest) (e ∷ ones) lists

abbrev last_list : List Elements → Elements
last_list [] = no_elements
last_list (es ∷ lists) = es

abbrev from_pieces : List ElementPiece → Elements
from_pieces ps = last_list (put_together ps [] []).lists

pub from_pieces-pieces : (es : Elements) → from_pieces (pieces_of_all es []) ≡ es
from_pieces-pieces es = ap (λ b. last_list b.lists) (all_are es [] [] [])

module _ (value : Coded Value) (name : Coded (List ℕ)) (piece : Coded Piece) where
  abbrev piece_code : Coded ElementPiece
  piece_code = coded⊎ (coded× (coded_option name) (pattern_code value name piece)) (coded⊎ (term_code piece) (coded⊎ coded_bool coded_bool))

  abbrev pub elements_code : Coded Elements
  elements_code = code_by (List ElementPiece) (coded_list piece_code) (λ es. pieces_of_all es []) from_pieces from_pieces-pieces

-- how the logic stores what is kept of a rule
abbrev pub rule_code : Coded (List ℕ) → Coded Piece → Coded RuleInfo
rule_code name piece =
    code_by
    ((ℕ × (List ℕ × ℤ)) × (List (List ℕ) × (List (List Bool) × Terms)))
    (coded× (coded× coded_ℕ (coded× name coded_ℤ)) (coded× (coded_list name) (coded× (coded_list (coded_list coded_bool)) (terms_code piece))))
    (λ r. ((r.id, (r.name, r.salience)), (r.relations, (r.layouts, r.actions))))
    (λ p. record { id = p.0.0; name = p.0.1.0; salience = p.0.1.1; relations = p.1.0; layouts = p.1.1.0; actions = p.1.1.1 })
    (λ _. refl)
