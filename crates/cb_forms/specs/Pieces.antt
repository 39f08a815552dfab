-- The pieces of a text: blanks, comments, parentheses, connectives, strings and words. What they are doesn't depend on
-- the lists around them.
use Rattle.std.specs.Prelude.{◌==◌, ◌||◌, ℕ, Bool, false, not, List, [], ◌∷◌, Result, Ok, Err, map, if◌then◌else◌}
use Rattle.cb_forms.specs.Bytes.{is_blank, is_line_end, is_single, is_delimiter, ampersand, bar, closing, opening, quote, semicolon, tilde}
use Rattle.cb_forms.specs.Cutting.{cut}
use Rattle.cb_forms.specs.Strings.{is_unclosed, string_content}
use Rattle.cb_forms.specs.Words.{token_of}
use Rattle.cb_forms.specs.declared.fault.Fault.{Fault}
use Rattle.cb_forms.specs.declared.fault.Fault.TheVariants.{FormNotClosed}
use Rattle.cb_forms.specs.declared.lexeme.Lexeme.{Lexeme}
use Rattle.cb_forms.specs.declared.lexeme.Lexeme.TheVariants.{Gap, Opening, Closing, Atom}
use Rattle.cb_forms.specs.declared.token.Token.{Token}
use Rattle.cb_forms.specs.declared.token.Token.TheVariants.{Str, And, Or, Not}

-- A comment goes on up to a line end, a string through its closing quote and a word up to a delimiter. All else is one byte.
abbrev pub piece_takes : List ℕ → ℕ → Bool
piece_takes [] b = false
piece_takes (c ∷ cs) b =
    if c == semicolon then not (is_line_end b) else (if c == quote then is_unclosed cs else (if is_single c then false else not (is_delimiter b)))

unfoldable pub pieces : List ℕ → List (List ℕ)
pieces s = cut piece_takes s

-- a string, by the bytes after its opening quote: without a closing one it is open
abbrev pub string_token : List ℕ → Result Token Fault
string_token cs = if is_unclosed cs then Err FormNotClosed else Ok (Str (string_content cs))

-- what a piece is, by its first byte
abbrev pub lexeme_of : List ℕ → Lexeme
lexeme_of [] = Gap
lexeme_of (c ∷ cs) =
    if is_blank c || c == semicolon then Gap else (
    if c == opening then Opening else (
    if c == closing then Closing else (
    if c == ampersand then Atom (Ok And) else (
    if c == bar then Atom (Ok Or) else (if c == tilde then Atom (Ok Not) else (if c == quote then Atom (string_token cs) else Atom (token_of (c ∷ cs))))))))

-- What the pieces of a text are, in order.
abbrev pub lexemes : List ℕ → List Lexeme
lexemes s = map lexeme_of (pieces s)
