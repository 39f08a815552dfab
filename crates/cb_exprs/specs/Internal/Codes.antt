-- How the logic stores a term: as the pieces that it is put together from, each after its parts.
use Rattle.std.specs.Prelude.{◌≡◌, ℕ, List, [], ◌∷◌, refl}
use Rattle.std.specs.Coded.{Coded, code_by, coded_list}
use Rattle.std.proofs.Common.{◌∙◌, ap}
use Rattle.cb_exprs.specs.Terms.{Term, constant, variable, global, call, effect, choose, repeat, actions, Terms, no_terms, term}
use Rattle.cb_exprs.specs.declared.effect.Effect.{Effect}
use Rattle.cb_facts.specs.declared.value.Value.{Value}
use Rattle.cb_words.specs.declared.words.Function.{Function}

pub data Piece : Type 0 where
  a_constant : Value → Piece
  a_variable : List ℕ → Piece
  a_global : List ℕ → Piece
  a_call : Function → Piece
  an_effect : Effect → Piece
  a_choose : Piece
  a_repeat : Piece
  an_actions : Piece
  no_more : Piece
  one_more : Piece

-- the pieces of a term, before others
abbrev mutual
  pub term_pieces : Term → List Piece → List Piece
  term_pieces (constant v) rest = a_constant v ∷ rest
  term_pieces (variable x) rest = a_variable x ∷ rest
  term_pieces (global x) rest = a_global x ∷ rest
  term_pieces (call f ts) rest = pieces_of_all ts (a_call f ∷ rest)
  term_pieces (effect e ts) rest = pieces_of_all ts (an_effect e ∷ rest)
  term_pieces (choose t u w) rest = term_pieces t (term_pieces u (term_pieces w (a_choose ∷ rest)))
  term_pieces (repeat t u) rest = term_pieces t (term_pieces u (a_repeat ∷ rest))
  term_pieces (actions ts) rest = pieces_of_all ts (an_actions ∷ rest)

  pub pieces_of_all : Terms → List Piece → List Piece
  pieces_of_all no_terms rest = no_more ∷ rest
  pieces_of_all (term t ts) rest = term_pieces t (pieces_of_all ts (one_more ∷ rest))

-- the terms and the lists of terms that are put together so far, the last first
pub record Assembled : Type 0 where
  pub ones : List Term
  pub lists : List Terms

abbrev with_term : Term → List Term → List Terms → Assembled
with_term t ones lists = record { ones = t ∷ ones; lists = lists }

-- a piece takes its parts, which are the last that were put together
abbrev with_piece : Piece → List Term → List Terms → Assembled
with_piece (a_constant v) ones lists = with_term (constant v) ones lists
with_piece (a_variable x) ones lists = with_term (variable x) ones lists
with_piece (a_global x) ones lists = with_term (global x) ones lists
with_piece (a_call f) ones (ts ∷ lists) = with_term (call f ts) ones lists
with_piece (an_effect e) ones (ts ∷ lists) = with_term (effect e ts) ones lists
with_piece a_choose (w ∷ u ∷ t ∷ ones) lists = with_term (choose t u w) ones lists
with_piece a_repeat (u ∷ t ∷ ones) lists = with_term (repeat t u) ones lists
with_piece an_actions ones (ts ∷ lists) = with_term (actions ts) ones lists
with_piece no_more ones lists = record { ones = ones; lists = no_terms ∷ lists }
with_piece one_more (t ∷ ones) (ts ∷ lists) = record { ones = ones; lists = term t ts ∷ lists }
with_piece p ones lists = record { ones = ones; lists = lists }

abbrev put_together : List Piece → List Term → List Terms → Assembled
put_together [] ones lists = record { ones = ones; lists = lists }
put_together (p ∷ ps) ones lists = put_together ps (with_piece p ones lists).ones (with_piece p ones lists).lists

mutual
  one_is : (t : Term) (rest : List Piece) (ones : List Term) (lists : List Terms) → put_together (term_pieces t rest) ones lists ≡ put_together rest (t ∷ ones) lists
  one_is (constant v) rest ones lists = refl
  one_is (variable x) rest ones lists = refl
  one_is (global x) rest ones lists = refl
  one_is (call f ts) rest ones lists = all_are ts (a_call f ∷ rest) ones lists
  one_is (effect e ts) rest ones lists = all_are ts (an_effect e ∷ rest) ones lists
  one_is (choose t u w) rest ones lists =
      one_is t (term_pieces u (term_pieces w (a_choose ∷ rest))) ones lists
      ∙ (one_is u (term_pieces w (a_choose ∷ rest)) (t ∷ ones) lists ∙ one_is w (a_choose ∷ rest) (u ∷ t ∷ ones) lists)
  one_is (repeat t u) rest ones lists = one_is t (term_pieces u (a_repeat ∷ rest)) ones lists ∙ one_is u (a_repeat ∷ rest) (t ∷ ones) lists
  one_is (actions ts) rest ones lists = all_are ts (an_actions ∷ rest) ones lists

  all_are : (ts : Terms) (rest : List Piece) (ones : List Term) (lists : List Terms) → put_together (pieces_of_all ts rest) ones lists ≡ put_together rest ones (ts ∷ lists)
  all_are no_terms rest ones lists = refl
  all_are (term t ts) rest ones lists = one_is t (pieces_of_all ts (one_more ∷ rest)) ones lists ∙ all_are ts (one_more ∷ rest) (t ∷ ones) lists

abbrev last_list : List Terms → Terms
last_list [] = no_terms
last_list (ts ∷ lists) = ts

abbrev from_pieces : List Piece → Terms
from_pieces ps = last_list (put_together ps [] []).lists

pub from_pieces-pieces : (ts : Terms) → from_pieces (pieces_of_all ts []) ≡ ts
from_pieces-pieces ts = ap (λ b. last_list b.lists) (all_are ts [] [] [])

abbrev pub terms_code : Coded Piece → Coded Terms
terms_code code = code_by (List Piece) (coded_list code) (λ ts. pieces_of_all ts []) from_pieces from_pieces-pieces

abbrev term_first : Terms → Term
term_first no_terms = actions no_terms
term_first (term t ts) = t

abbrev pub term_code : Coded Piece → Coded Term
term_code piece = code_by Terms (terms_code piece) (λ t. term t no_terms) term_first (λ _. refl)
