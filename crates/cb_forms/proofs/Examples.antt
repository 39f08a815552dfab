-- Texts and their items, against values worked out by hand from the rules.
use Rattle.std.proofs.Common.{◌≡◌, ℕ, Bool, true, false, List, [], ◌∷◌, ◌++◌, map, codes, pos, zero, suc, Ok, Err, replicate, refl}
use Rattle.cb_forms.specs.Items.{is_open_list, parts, items, whole, rest, over}
use Rattle.cb_forms.specs.Lists.{list_reading}
use Rattle.cb_forms.specs.Pieces.{pieces}
use Rattle.cb_forms.specs.Trees.{Tree, atom, branch, trees_of, Reading}
use Rattle.cb_forms.specs.Words.{token_of}
use Rattle.cb_forms.specs.declared.fault.Fault.TheVariants.{FormNotClosed, UnmatchedParenthesis, NestingTooDeep, IntegerOutOfRange, FloatNotSupported}
use Rattle.cb_forms.specs.declared.lexeme.Lexeme.{Lexeme}
use Rattle.cb_forms.specs.declared.lexeme.Lexeme.TheVariants.{Opening, Closing, Atom}
use Rattle.cb_forms.specs.declared.token.Token.TheVariants.{Symbol, Str, Int, Var, MultiVar, Any, MultiAny, Global, And, Or, Not}

abbrev word : List ℕ → Tree
word w = atom (Symbol w)

abbrev text : List ℕ → Tree
text s = atom (Str s)

abbrev number : ℕ → Tree
number n = atom (Int (pos n))

abbrev list : List Tree → Tree
list ts = branch (trees_of ts)

abbrev read : Tree → Reading
read t = Ok t

-- texts and their items
abbrev Rows : Type 0
Rows = List (List ℕ × List Reading)

abbrev atoms : Rows
atoms =
    (codes "", []) ∷
    (codes " \t\n", []) ∷
    (codes "abc", read (word (codes "abc")) ∷ []) ∷
    (codes "\"a\\\\b\" 007 +5 -0", read (text (codes "a\\b")) ∷ read (number 7) ∷ read (number 5) ∷ read (number 0) ∷ []) ∷
    (codes "? ?x $? $?y ?*g*", read (atom Any) ∷ read (atom (Var (codes "x"))) ∷ read (atom MultiAny) ∷ read (atom (MultiVar (codes "y"))) ∷ read (atom (Global (codes "g"))) ∷ []) ∷
    (codes "a<b&c|d~e\"f\"g;h", read (word (codes "a")) ∷ read (word (codes "<b")) ∷ read (atom And) ∷ read (word (codes "c")) ∷ read (atom Or) ∷ read (word (codes "d")) ∷ read (atom Not) ∷ read (word (codes "e")) ∷ read (text (codes "f")) ∷ read (word (codes "g")) ∷ []) ∷
    (codes "a ; b", read (word (codes "a")) ∷ []) ∷
    (codes "a;b\nc", read (word (codes "a")) ∷ read (word (codes "c")) ∷ []) ∷
    (codes "a)b", read (word (codes "a")) ∷ Err UnmatchedParenthesis ∷ read (word (codes "b")) ∷ []) ∷
    (codes "1.5 99999999999999999999", Err FloatNotSupported ∷ Err IntegerOutOfRange ∷ []) ∷
    (codes "a \"b", read (word (codes "a")) ∷ Err FormNotClosed ∷ []) ∷
    (codes "\"a\\\"", Err FormNotClosed ∷ []) ∷
    []

atoms-read : map (λ row. items row.0) atoms ≡ map (λ row. row.1) atoms
unfolding items parts token_of
atoms-read = refl

abbrev lists : Rows
lists =
    (codes "()", read (list []) ∷ []) ∷
    (codes "(assert (a)) (assert (b", read (list (word (codes "assert") ∷ list (word (codes "a") ∷ []) ∷ [])) ∷ Err FormNotClosed ∷ []) ∷
    (codes "(create$ $ 1- <= \"q\")", read (list (word (codes "create$") ∷ word (codes "$") ∷ word (codes "1-") ∷ word (codes "<=") ∷ text (codes "q") ∷ [])) ∷ []) ∷
    (codes "(printout t \"a\\\"b\" crlf)", read (list (word (codes "printout") ∷ word (codes "t") ∷ text (codes "a\"b") ∷ word (codes "crlf") ∷ [])) ∷ []) ∷
    (codes "(a;)\n\")\"b)c", read (list (word (codes "a") ∷ text (codes ")") ∷ word (codes "b") ∷ [])) ∷ read (word (codes "c")) ∷ []) ∷
    (codes "((a)()(b c))", read (list (list (word (codes "a") ∷ []) ∷ list [] ∷ list (word (codes "b") ∷ word (codes "c") ∷ []) ∷ [])) ∷ []) ∷
    (codes "(a))", read (list (word (codes "a") ∷ [])) ∷ Err UnmatchedParenthesis ∷ []) ∷
    (codes "(a \"b)", Err FormNotClosed ∷ []) ∷
    (codes "(a ;b)", Err FormNotClosed ∷ []) ∷
    (codes "(+ 1 1.5)(+ 1 99999999999999999999)", Err FloatNotSupported ∷ Err IntegerOutOfRange ∷ []) ∷
    (codes "((1.5) 99999999999999999999)", Err FloatNotSupported ∷ []) ∷
    (codes "((99999999999999999999) 1.5)", Err IntegerOutOfRange ∷ []) ∷
    (codes "(1.5", Err FormNotClosed ∷ []) ∷
    []

lists-read : map (λ row. items row.0) lists ≡ map (λ row. row.1) lists
unfolding items parts pieces is_open_list token_of
lists-read = refl

-- texts, the items that have ended in them, and the bytes that are open
abbrev beginnings : List (List ℕ × (List Reading × List ℕ))
beginnings =
    (codes "", ([], codes "")) ∷
    (codes "abc d", (read (word (codes "abc")) ∷ [], codes "d")) ∷
    (codes "abc d ", (read (word (codes "abc")) ∷ read (word (codes "d")) ∷ [], codes "")) ∷
    (codes "a)", (read (word (codes "a")) ∷ Err UnmatchedParenthesis ∷ [], codes "")) ∷
    (codes "a&", (read (word (codes "a")) ∷ read (atom And) ∷ [], codes "")) ∷
    (codes "a ;b", (read (word (codes "a")) ∷ [], codes "")) ∷
    (codes "a \"b;", (read (word (codes "a")) ∷ [], codes "\"b;")) ∷
    (codes "a \"b;\"", (read (word (codes "a")) ∷ read (text (codes "b;")) ∷ [], codes "")) ∷
    (codes "(a) (b (c) ", (read (list (word (codes "a") ∷ [])) ∷ [], codes "(b (c) ")) ∷
    (codes "(a) (b)", (read (list (word (codes "a") ∷ [])) ∷ read (list (word (codes "b") ∷ [])) ∷ [], codes "")) ∷
    []

beginnings-whole : map (λ row. whole row.0) beginnings ≡ map (λ row. row.1.0) beginnings
unfolding whole parts pieces is_open_list token_of
beginnings-whole = refl

beginnings-rest : map (λ row. rest row.0) beginnings ≡ map (λ row. row.1.1) beginnings
unfolding rest parts pieces is_open_list
beginnings-rest = refl

-- texts, limits, and whether some item has more bytes than the limit
abbrev sizes : List (List ℕ × (ℕ × Bool))
sizes =
    (codes "(rules)", (7, false)) ∷
    (codes "(rules)", (6, true)) ∷
    (codes "(rules", (6, false)) ∷
    (codes "(rules", (5, true)) ∷
    (codes "abc d", (3, false)) ∷
    (codes "abcd", (3, true)) ∷
    (codes "a abcd a", (3, true)) ∷
    (codes "\"ab\"", (3, true)) ∷
    (codes "; a comment", (3, false)) ∷
    (codes "      ", (3, false)) ∷
    (codes "(a ;b\n)", (6, true)) ∷
    (codes "a", (0, true)) ∷
    (codes "", (0, false)) ∷
    []

sizes-over : map (λ row. over row.1.0 row.0) sizes ≡ map (λ row. row.1.1) sizes
unfolding over parts pieces is_open_list
sizes-over = refl

-- n lists, each in the one before it
abbrev nested : ℕ → List Lexeme
nested n = replicate n Opening ++ replicate n Closing

abbrev nest : ℕ → Tree
nest zero = list []
nest (suc n) = list (nest n ∷ [])

abbrev depths : List (List Lexeme × Reading)
depths =
    (nested 1, read (nest 0)) ∷
    (nested 3, read (nest 2)) ∷
    (nested 199, read (nest 198)) ∷
    (nested 200, read (nest 199)) ∷
    (nested 201, Err NestingTooDeep) ∷
    (nested 202, Err NestingTooDeep) ∷
    (Opening ∷ nested 200 ++ Atom (Err FloatNotSupported) ∷ Closing ∷ [], Err NestingTooDeep) ∷
    (Opening ∷ Atom (Err FloatNotSupported) ∷ nested 200 ++ Closing ∷ [], Err FloatNotSupported) ∷
    (Opening ∷ nested 199 ++ nested 199 ++ Closing ∷ [], read (list (nest 198 ∷ nest 198 ∷ []))) ∷
    []

depths-read : map (λ row. list_reading row.0) depths ≡ map (λ row. row.1) depths
depths-read = refl
