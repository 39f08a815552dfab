-- Words by their class and strings by their content, against values worked out by hand from the rule.
use Rattle.std.proofs.Common.{◌≡◌, ℕ, Bool, true, false, List, [], ◌∷◌, map, codes, pos, negsuc, Result, Ok, Err, refl}
use Rattle.cb_forms.specs.Words.{token_of}
use Rattle.cb_forms.specs.Strings.{is_unclosed, string_content}
use Rattle.cb_forms.specs.declared.fault.Fault.{Fault}
use Rattle.cb_forms.specs.declared.fault.Fault.TheVariants.{IntegerOutOfRange, FloatNotSupported}
use Rattle.cb_forms.specs.declared.token.Token.{Token}
use Rattle.cb_forms.specs.declared.token.Token.TheVariants.{Symbol, Int, Var, MultiVar, Any, MultiAny, Global}

-- words and what each is
abbrev Words : Type 0
Words = List (List ℕ × Result Token Fault)

-- words that spell numbers, those that do not fit 64 bits with a sign too
abbrev numbers : Words
numbers =
    (codes "0", Ok (Int (pos 0))) ∷
    (codes "9", Ok (Int (pos 9))) ∷
    (codes "1234567890", Ok (Int (pos 1234567890))) ∷
    (codes "007", Ok (Int (pos 7))) ∷
    (codes "+5", Ok (Int (pos 5))) ∷
    (codes "-5", Ok (Int (negsuc 4))) ∷
    (codes "-1", Ok (Int (negsuc 0))) ∷
    (codes "-0", Ok (Int (pos 0))) ∷
    (codes "9223372036854775807", Ok (Int (pos 9223372036854775807))) ∷
    (codes "+9223372036854775807", Ok (Int (pos 9223372036854775807))) ∷
    (codes "-9223372036854775808", Ok (Int (negsuc 9223372036854775807))) ∷
    (codes "0000000000000000000000000000009223372036854775807", Ok (Int (pos 9223372036854775807))) ∷
    (codes "-0000000000000000000000000000009223372036854775808", Ok (Int (negsuc 9223372036854775807))) ∷
    (codes "9223372036854775808", Err IntegerOutOfRange) ∷
    (codes "+9223372036854775808", Err IntegerOutOfRange) ∷
    (codes "-9223372036854775809", Err IntegerOutOfRange) ∷
    (codes "18446744073709551616", Err IntegerOutOfRange) ∷
    (codes "-18446744073709551616", Err IntegerOutOfRange) ∷
    (codes "18446744073709551617", Err IntegerOutOfRange) ∷
    (codes "111111111111111111111111111111111111111111111111111111111111", Err IntegerOutOfRange) ∷
    []

numbers-read : map (λ row. token_of row.0) numbers ≡ map (λ row. row.1) numbers
unfolding token_of
numbers-read = refl

-- words that spell numbers of another kind
abbrev floats : Words
floats =
    (codes "3.25", Err FloatNotSupported) ∷
    (codes "-3.25", Err FloatNotSupported) ∷
    (codes "+3.25", Err FloatNotSupported) ∷
    (codes "1.", Err FloatNotSupported) ∷
    (codes ".5", Err FloatNotSupported) ∷
    (codes "-.5", Err FloatNotSupported) ∷
    (codes "-1e3", Err FloatNotSupported) ∷
    (codes "1E3", Err FloatNotSupported) ∷
    (codes "1e+3", Err FloatNotSupported) ∷
    (codes "1e-3", Err FloatNotSupported) ∷
    (codes "1.e5", Err FloatNotSupported) ∷
    (codes "+.5E-3", Err FloatNotSupported) ∷
    (codes "-12.34e+56", Err FloatNotSupported) ∷
    (codes "99999999999999999999e5", Err FloatNotSupported) ∷
    []

floats-read : map (λ row. token_of row.0) floats ≡ map (λ row. row.1) floats
unfolding token_of
floats-read = refl

-- wildcards, variables and globals
abbrev variables : Words
variables =
    (codes "?", Ok Any) ∷
    (codes "$?", Ok MultiAny) ∷
    (codes "?*ab*", Ok (Global (codes "ab"))) ∷
    (codes "?*a*", Ok (Global (codes "a"))) ∷
    (codes "$?*ab*", Ok (Global (codes "ab"))) ∷
    (codes "?ab", Ok (Var (codes "ab"))) ∷
    (codes "$?ab", Ok (MultiVar (codes "ab"))) ∷
    (codes "?*", Ok (Var (codes "*"))) ∷
    (codes "?**", Ok (Var (codes "**"))) ∷
    (codes "?***", Ok (Global (codes "*"))) ∷
    (codes "?****", Ok (Global (codes "**"))) ∷
    (codes "$?*", Ok (MultiVar (codes "*"))) ∷
    (codes "$?**", Ok (MultiVar (codes "**"))) ∷
    (codes "$?***", Ok (Global (codes "*"))) ∷
    (codes "?*ab", Ok (Var (codes "*ab"))) ∷
    (codes "?ab*", Ok (Var (codes "ab*"))) ∷
    (codes "?*a*b*", Ok (Global (codes "a*b"))) ∷
    (codes "?f:slot", Ok (Var (codes "f:slot"))) ∷
    (codes "?12", Ok (Var (codes "12"))) ∷
    (codes "??", Ok (Var (codes "?"))) ∷
    (codes "?$", Ok (Var (codes "$"))) ∷
    []

variables-read : map (λ row. token_of row.0) variables ≡ map (λ row. row.1) variables
unfolding token_of
variables-read = refl

-- words that are nothing else
abbrev symbols : Words
symbols =
    (codes "", Ok (Symbol (codes ""))) ∷
    (codes "$", Ok (Symbol (codes "$"))) ∷
    (codes "$ab", Ok (Symbol (codes "$ab"))) ∷
    (codes "$1", Ok (Symbol (codes "$1"))) ∷
    (codes "a?b", Ok (Symbol (codes "a?b"))) ∷
    (codes "abc", Ok (Symbol (codes "abc"))) ∷
    (codes "Abc-d_e", Ok (Symbol (codes "Abc-d_e"))) ∷
    (codes "*", Ok (Symbol (codes "*"))) ∷
    (codes "*ab*", Ok (Symbol (codes "*ab*"))) ∷
    (codes "+", Ok (Symbol (codes "+"))) ∷
    (codes "-", Ok (Symbol (codes "-"))) ∷
    (codes ".", Ok (Symbol (codes "."))) ∷
    (codes "+.", Ok (Symbol (codes "+."))) ∷
    (codes "-.", Ok (Symbol (codes "-."))) ∷
    (codes "-.e5", Ok (Symbol (codes "-.e5"))) ∷
    (codes "e5", Ok (Symbol (codes "e5"))) ∷
    (codes ".e5", Ok (Symbol (codes ".e5"))) ∷
    (codes "1-", Ok (Symbol (codes "1-"))) ∷
    (codes "1e", Ok (Symbol (codes "1e"))) ∷
    (codes "1e+", Ok (Symbol (codes "1e+"))) ∷
    (codes "1.e", Ok (Symbol (codes "1.e"))) ∷
    (codes "1e1.5", Ok (Symbol (codes "1e1.5"))) ∷
    (codes "1e2e3", Ok (Symbol (codes "1e2e3"))) ∷
    (codes "1.5.2", Ok (Symbol (codes "1.5.2"))) ∷
    (codes "1..5", Ok (Symbol (codes "1..5"))) ∷
    (codes "0x1", Ok (Symbol (codes "0x1"))) ∷
    (codes "--5", Ok (Symbol (codes "--5"))) ∷
    (codes "+-5", Ok (Symbol (codes "+-5"))) ∷
    (codes "1e+-5", Ok (Symbol (codes "1e+-5"))) ∷
    (codes "1_0", Ok (Symbol (codes "1_0"))) ∷
    (codes "1a", Ok (Symbol (codes "1a"))) ∷
    (codes "a1", Ok (Symbol (codes "a1"))) ∷
    (codes "5+", Ok (Symbol (codes "5+"))) ∷
    (codes "/", Ok (Symbol (codes "/"))) ∷
    (codes ":", Ok (Symbol (codes ":"))) ∷
    (codes "1/2", Ok (Symbol (codes "1/2"))) ∷
    (codes "1:2", Ok (Symbol (codes "1:2"))) ∷
    []

symbols-read : map (λ row. token_of row.0) symbols ≡ map (λ row. row.1) symbols
unfolding token_of
symbols-read = refl

-- what stands after an opening quote, the content, and whether no closing quote stands there
abbrev strings : List (List ℕ × (List ℕ × Bool))
strings =
    (codes "ab\"", (codes "ab", false)) ∷
    (codes "\"", (codes "", false)) ∷
    (codes "", (codes "", true)) ∷
    (codes "ab", (codes "ab", true)) ∷
    (codes "a\\\"b\"", (codes "a\"b", false)) ∷
    (codes "a\\\\b\"", (codes "a\\b", false)) ∷
    (codes "\\n\"", (codes "n", false)) ∷
    (codes "ab\\", (codes "ab", true)) ∷
    (codes "ab\\\"", (codes "ab\"", true)) ∷
    (codes "ab\\\\\"", (codes "ab\\", false)) ∷
    (codes "\\\\\\\"\"", (codes "\\\"", false)) ∷
    (codes "a\nb\"", (codes "a\nb", false)) ∷
    (codes "a\\\nb\"", (codes "a\nb", false)) ∷
    (codes "ab\"cd\"", (codes "ab", false)) ∷
    (codes "(a) ; ~?x\"", (codes "(a) ; ~?x", false)) ∷
    []

strings-read : map (λ row. string_content row.0) strings ≡ map (λ row. row.1.0) strings
strings-read = refl

strings-end : map (λ row. is_unclosed row.0) strings ≡ map (λ row. row.1.1) strings
strings-end = refl

-- bytes past 127 and a zero byte stay as they are
bytes-read : string_content (195 ∷ 169 ∷ 255 ∷ 0 ∷ 34 ∷ []) ≡ 195 ∷ 169 ∷ 255 ∷ 0 ∷ []
bytes-read = refl
