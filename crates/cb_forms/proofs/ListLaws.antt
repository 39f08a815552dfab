-- Reading a list piece by piece.
use Rattle.std.proofs.Common.{◌≡◌, ◌==◌, ◌||◌, ◌<◌, ◌≤◌, ℕ, ◌+◌, ◌-◌, Bool, true, false, cond, List, [], ◌∷◌, ◌++◌, Some, None, Result, Ok, Err, length, drop, map, refl, sym, ap, ◌∙◌, inl, inr, arith, if◌then◌else◌}
use Rattle.std.proofs.lemmas.Bool.{false≢true, ltb-false, eqb-true, cases_eq, ne_eqb, le-leb, lt-leb}
use Rattle.std.proofs.lemmas.List.{length_push}
use Rattle.std.proofs.lemmas.List.Sums.{sum_by-cons}
use Rattle.cb_forms.specs.Bytes.{is_blank, begins_with}
use Rattle.cb_forms.specs.Items.{openings, closings, is_open_list}
use Rattle.cb_forms.specs.Lists.{first_fault, put_first, levels_of, first_tree, fault_or, list_reading}
use Rattle.cb_forms.specs.Internal.ListStacks.{closed_up}
use Rattle.cb_forms.specs.Pieces.{pieces, string_token, lexeme_of, lexemes}
use Rattle.cb_forms.specs.Trees.{Tree, atom}
use Rattle.cb_forms.specs.Words.{token_of}
use Rattle.cb_forms.specs.declared.fault.Fault.{Fault}
use Rattle.cb_forms.specs.declared.fault.Fault.TheVariants.{NestingTooDeep}
use Rattle.cb_forms.specs.declared.lexeme.Lexeme.{Lexeme}
use Rattle.cb_forms.specs.declared.lexeme.Lexeme.TheVariants.{Gap, Opening, Closing, Atom}
use Rattle.cb_forms.specs.declared.token.Token.{Token}
use Rattle.cb_forms.specs.declared.token.Token.TheVariants.{And, Or, Not}
use Rattle.cb_forms.proofs.ListStackLaws.{closed_up-open}

abbrev pub is_opening : Lexeme → Bool
is_opening Opening = true
is_opening Gap = false
is_opening Closing = false
is_opening (Atom r) = false

abbrev pub is_closing : Lexeme → Bool
is_closing Closing = true
is_closing Gap = false
is_closing Opening = false
is_closing (Atom r) = false

abbrev lexeme_else : ℕ → List ℕ → Lexeme
lexeme_else c cs = if c == 38 then Atom (Ok And) else (if c == 124 then Atom (Ok Or) else (if c == 126 then Atom (Ok Not) else (if c == 34 then Atom (string_token cs) else Atom (token_of (c ∷ cs)))))

module _ (q : Lexeme → Bool) (gap : q Gap ≡ false) (each : (r : Result Token Fault) → q (Atom r) ≡ false) where
  lexeme_else-no : (c : ℕ) (cs : List ℕ) → q (lexeme_else c cs) ≡ false
  lexeme_else-no c cs =
      elim (c == 38) as (λ t. q (if t then Atom (Ok And) else (if c == 124 then Atom (Ok Or) else (if c == 126 then Atom (Ok Not) else (if c == 34 then Atom (string_token cs) else Atom (token_of (c ∷ cs)))))) ≡ false) [
        | true ↦ each (Ok And)
        | false ↦ elim (c == 124) as (λ t. q (if t then Atom (Ok Or) else (if c == 126 then Atom (Ok Not) else (if c == 34 then Atom (string_token cs) else Atom (token_of (c ∷ cs))))) ≡ false) [
          | true ↦ each (Ok Or)
          | false ↦ elim (c == 126) as (λ t. q (if t then Atom (Ok Not) else (if c == 34 then Atom (string_token cs) else Atom (token_of (c ∷ cs)))) ≡ false) [
            | true ↦ each (Ok Not)
            | false ↦ elim (c == 34) as (λ t. q (if t then Atom (string_token cs) else Atom (token_of (c ∷ cs))) ≡ false) [
              | true ↦ each (string_token cs)
              | false ↦ each (token_of (c ∷ cs))
            ]
          ]
        ]
      ]

  -- a piece that begins with neither parenthesis is neither
  lexeme-no : (c : ℕ) (cs : List ℕ) → (c == 40) ≡ false → (c == 41) ≡ false → q (lexeme_of (c ∷ cs)) ≡ false
  lexeme-no c cs no_open no_close =
      rw (no_open, no_close) (elim (is_blank c || c == 59) as (λ t. q (if t then Gap else lexeme_else c cs) ≡ false) [
        | true ↦ gap
        | false ↦ lexeme_else-no c cs
      ])

pub opening-begins : (p : List ℕ) → begins_with 40 p ≡ is_opening (lexeme_of p)
opening-begins [] = refl
opening-begins (c ∷ cs) = elim (cases_eq c 40) as (λ _. (c == 40) ≡ is_opening (lexeme_of (c ∷ cs))) [
  | inl e ↦ rw e refl
  | inr e ↦ elim (cases_eq c 41) as (λ _. (c == 40) ≡ is_opening (lexeme_of (c ∷ cs))) [
    | inl f ↦ rw f refl
    | inr f ↦ ne_eqb c 40 e ∙ sym (lexeme-no is_opening refl (λ _. refl) c cs (ne_eqb c 40 e) (ne_eqb c 41 f))
  ]
]

pub closing-begins : (p : List ℕ) → begins_with 41 p ≡ is_closing (lexeme_of p)
closing-begins [] = refl
closing-begins (c ∷ cs) = elim (cases_eq c 40) as (λ _. (c == 41) ≡ is_closing (lexeme_of (c ∷ cs))) [
  | inl e ↦ rw e refl
  | inr e ↦ elim (cases_eq c 41) as (λ _. (c == 41) ≡ is_closing (lexeme_of (c ∷ cs))) [
    | inl f ↦ rw f refl
    | inr f ↦ ne_eqb c 41 f ∙ sym (lexeme-no is_closing refl (λ _. refl) c cs (ne_eqb c 40 e) (ne_eqb c 41 f))
  ]
]

abbrev pub one_if : Bool → ℕ
one_if t = cond t 1 0

-- What has been read of a list: the frames, and the text that is left, say what the whole list says.
pub record IsListSoFar (list : List ℕ) (frames : List (List Tree)) (rest : List ℕ) : Type 0 where
  pub fault_is : first_fault (length frames) (lexemes rest) ≡ first_fault 0 (lexemes list)
  pub tree_is : first_tree (closed_up frames (levels_of (lexemes rest))) ≡ first_tree (levels_of (lexemes list))
  pub even : openings (pieces rest) + length frames ≤ closings (pieces rest)

pub pieces-list : (cs : List ℕ) → pieces (40 ∷ cs) ≡ (40 ∷ []) ∷ pieces cs
unfolding pieces
pieces-list [] = refl
pieces-list (c ∷ cs) = refl

pub list-begin : (list : List ℕ) → begins_with 40 list ≡ true → is_open_list list ≡ false → IsListSoFar list ([] ∷ []) (drop 1 list)
unfolding is_open_list
list-begin [] = λ h _. absurd (false≢true h)
list-begin (c ∷ cs) = λ h. rw (eqb-true c 40 h) (λ closed.
    let all = pieces-list cs in
    let even = ltb-false (closings (pieces (40 ∷ cs))) (openings (pieces (40 ∷ cs))) closed in
    let opens : openings (pieces (40 ∷ cs)) ≡ 1 + openings (pieces cs) = ap openings all ∙ sum_by-cons (λ p. cond (begins_with 40 p) 1 0) (40 ∷ []) (pieces cs) in
    let closes : closings (pieces (40 ∷ cs)) ≡ 0 + closings (pieces cs) = ap closings all ∙ sum_by-cons (λ p. cond (begins_with 41 p) 1 0) (40 ∷ []) (pieces cs) in record {
      fault_is = ap (λ ps. first_fault 0 (map lexeme_of ps)) (sym all);
      tree_is = ap (λ ps. first_tree (levels_of (map lexeme_of ps))) (sym all);
      even = omega arith;
    })

-- the text that is left begins with a piece
module _ (list : List ℕ) (frames : List (List Tree)) (rest piece more : List ℕ) (l : Lexeme) (so_far : IsListSoFar list frames rest) (cut : pieces rest ≡ piece ∷ pieces more) (is : l ≡ lexeme_of piece) where
  lexemes_are : lexemes rest ≡ l ∷ lexemes more
  lexemes_are = ap (map lexeme_of) cut ∙ ap (λ it. it ∷ lexemes more) (sym is)

  pub fault_here : first_fault (length frames) (l ∷ lexemes more) ≡ first_fault 0 (lexemes list)
  fault_here = ap (first_fault (length frames)) (sym lexemes_are) ∙ so_far.fault_is

  pub tree_here : first_tree (closed_up frames (levels_of (l ∷ lexemes more))) ≡ first_tree (levels_of (lexemes list))
  tree_here = ap (λ ls. first_tree (closed_up frames (levels_of ls))) (sym lexemes_are) ∙ so_far.tree_is

  pub even_here : (one_if (is_opening l) + openings (pieces more)) + length frames ≤ one_if (is_closing l) + closings (pieces more)
  even_here =
      let opens : openings (pieces rest) ≡ one_if (begins_with 40 piece) + openings (pieces more) = ap openings cut ∙ sum_by-cons (λ p. cond (begins_with 40 p) 1 0) piece (pieces more) in
      let closes : closings (pieces rest) ≡ one_if (begins_with 41 piece) + closings (pieces more) = ap closings cut ∙ sum_by-cons (λ p. cond (begins_with 41 p) 1 0) piece (pieces more) in
      let first : one_if (begins_with 40 piece) ≡ one_if (is_opening l) = ap one_if (opening-begins piece ∙ ap is_opening (sym is)) in
      let last : one_if (begins_with 41 piece) ≡ one_if (is_closing l) = ap one_if (closing-begins piece ∙ ap is_closing (sym is)) in
      let was = so_far.even in omega arith

module _ (list : List ℕ) (frames : List (List Tree)) (rest piece more : List ℕ) (so_far : IsListSoFar list frames rest) (cut : pieces rest ≡ piece ∷ pieces more) where
  pub list-gap : Gap ≡ lexeme_of piece → IsListSoFar list frames more
  list-gap is = record {
    fault_is = fault_here list frames rest piece more Gap so_far cut is;
    tree_is = tree_here list frames rest piece more Gap so_far cut is;
    even = let even = even_here list frames rest piece more Gap so_far cut is in omega arith;
  }

  pub list-deep : Opening ≡ lexeme_of piece → 200 ≤ length frames → Err NestingTooDeep ≡ list_reading (lexemes list)
  list-deep is deep =
      let deep_is : Some NestingTooDeep ≡ first_fault 0 (lexemes list) = sym (ap (λ t. if t then Some NestingTooDeep else first_fault (length frames + 1) (lexemes more)) (le-leb 200 (length frames) deep)) ∙ fault_here list frames rest piece more Opening so_far cut is in
      ap (λ f. fault_or f (first_tree (levels_of (lexemes list)))) deep_is

  pub list-open : Opening ≡ lexeme_of piece → length frames < 200 → IsListSoFar list (frames ++ [] ∷ []) more
  list-open is low =
      let depth = length_push frames [] in record {
        fault_is = ap (λ n. first_fault n (lexemes more)) depth ∙ (sym (ap (λ t. if t then Some NestingTooDeep else first_fault (length frames + 1) (lexemes more)) (lt-leb 200 (length frames) low)) ∙ fault_here list frames rest piece more Opening so_far cut is);
        tree_is = ap first_tree (closed_up-open frames (levels_of (lexemes more))) ∙ tree_here list frames rest piece more Opening so_far cut is;
        even = let even = even_here list frames rest piece more Opening so_far cut is in omega arith;
      }

  pub list-atom : (t : Token) (frames' : List (List Tree)) → Atom (Ok t) ≡ lexeme_of piece → ((levels : List (List Tree)) → closed_up frames' levels ≡ closed_up frames (put_first (atom t) levels)) → length frames' ≡ length frames → IsListSoFar list frames' more
  list-atom t frames' is adds depth = record {
    fault_is = ap (λ n. first_fault n (lexemes more)) depth ∙ fault_here list frames rest piece more (Atom (Ok t)) so_far cut is;
    tree_is = ap first_tree (adds (levels_of (lexemes more))) ∙ tree_here list frames rest piece more (Atom (Ok t)) so_far cut is;
    even = let even = even_here list frames rest piece more (Atom (Ok t)) so_far cut is in omega arith;
  }

  pub list-fault : (f : Fault) → Atom (Err f) ≡ lexeme_of piece → Err f ≡ list_reading (lexemes list)
  list-fault f is = ap (λ it. fault_or it (first_tree (levels_of (lexemes list)))) (fault_here list frames rest piece more (Atom (Err f)) so_far cut is)

  pub list-close : (frames' : List (List Tree)) → Closing ≡ lexeme_of piece → ((levels : List (List Tree)) → closed_up frames' levels ≡ closed_up frames ([] ∷ levels)) → length frames ≡ length frames' + 1 → 0 < length frames' → IsListSoFar list frames' more
  list-close frames' is closes depth some =
      let low : 1 < length frames = omega arith in
      let same : length frames' ≡ length frames - 1 = omega arith in record {
        fault_is = ap (λ n. first_fault n (lexemes more)) same ∙ (sym (ap (λ t. if t then None else first_fault (length frames - 1) (lexemes more)) (lt-leb (length frames) 1 low)) ∙ fault_here list frames rest piece more Closing so_far cut is);
        tree_is = ap first_tree (closes (levels_of (lexemes more))) ∙ tree_here list frames rest piece more Closing so_far cut is;
        even = let even = even_here list frames rest piece more Closing so_far cut is in omega arith;
      }

  pub list-end : (t : Tree) → Closing ≡ lexeme_of piece → ((levels : List (List Tree)) → first_tree (closed_up frames ([] ∷ levels)) ≡ t) → length frames ≡ 1 → Ok t ≡ list_reading (lexemes list)
  list-end t is closes depth =
      let fine : None ≡ first_fault 0 (lexemes list) = sym (ap (λ n. if n then None else first_fault (length frames - 1) (lexemes more)) (le-leb (length frames) 1 (omega arith))) ∙ fault_here list frames rest piece more Closing so_far cut is in
      let tree_is : t ≡ first_tree (levels_of (lexemes list)) = sym (closes (levels_of (lexemes more))) ∙ tree_here list frames rest piece more Closing so_far cut is in
      ap Ok tree_is ∙ ap (λ f. fault_or f (first_tree (levels_of (lexemes list)))) fine

open_end : (list : List ℕ) (frames : List (List Tree)) → IsListSoFar list frames [] → 0 < length frames → ⊥
unfolding pieces
open_end list frames so_far some = let even = so_far.even in omega arith

-- a list whose pieces are all read was closed before
pub list-never : (list : List ℕ) (frames : List (List Tree)) (rest : List ℕ) → IsListSoFar list frames rest → length rest ≡ 0 → 0 < length frames → ⊥
list-never list frames [] so_far none some = open_end list frames so_far some
list-never list frames (b ∷ bs) so_far none some = omega arith
