-- The token that a word is, or its fault.
use Rattle.std.specs.Prelude.{◌==◌, ◌||◌, ◌&&◌, ℕ, ◌+◌, ◌-◌, ◌*◌, ◌^◌, Bool, true, false, pos, neg_ℤ, List, [], ◌∷◌, Result, Ok, Err, length, nat_le, nat_lt, fold, slice_index, slice_range, if◌then◌else◌}
use Rattle.cb_forms.specs.Bytes.{begins_with, is_digit, dollar, minus, plus, point, question_mark, star}
use Rattle.cb_forms.specs.declared.fault.Fault.{Fault}
use Rattle.cb_forms.specs.declared.fault.Fault.TheVariants.{IntegerOutOfRange, FloatNotSupported}
use Rattle.cb_forms.specs.declared.token.Token.{Token}
use Rattle.cb_forms.specs.declared.token.Token.TheVariants.{Symbol, Int, Var, MultiVar, Any, MultiAny, Global}

-- a text without the sign that it may begin with
abbrev pub without_sign : List ℕ → List ℕ
without_sign [] = []
without_sign (b ∷ bs) = if b == plus || b == minus then bs else b ∷ bs

abbrev pub begins_with_digit : List ℕ → Bool
begins_with_digit [] = false
begins_with_digit (b ∷ bs) = is_digit b

-- what stands after the digits that a text begins with
abbrev pub after_digits : List ℕ → List ℕ
after_digits [] = []
after_digits (b ∷ bs) = if is_digit b then after_digits bs else b ∷ bs

abbrev pub is_empty : List ℕ → Bool
is_empty [] = true
is_empty (b ∷ bs) = false

-- one digit or more, and nothing else
abbrev pub is_digits : List ℕ → Bool
is_digits t = begins_with_digit t && is_empty (after_digits t)

-- an optional sign, then digits
abbrev pub spells_integer : List ℕ → Bool
spells_integer w = is_digits (without_sign w)

-- the number that digits stand for
abbrev pub digits_value : List ℕ → ℕ
digits_value ds = fold (λ n d. 10 * n + (d - 48)) 0 ds

-- an integer, if it has 64 bits with a sign
abbrev pub integer_token : List ℕ → Result Token Fault
integer_token w =
    let n = digits_value (without_sign w) in
    if begins_with minus w then (if nat_le n (2 ^ 63) then Ok (Int (neg_ℤ (pos n))) else Err IntegerOutOfRange)
    else (if nat_lt n (2 ^ 63) then Ok (Int (pos n)) else Err IntegerOutOfRange)

-- `e` or `E`, an optional sign, digits
abbrev pub is_exponent : List ℕ → Bool
is_exponent [] = false
is_exponent (b ∷ bs) = (b == 101 || b == 69) && is_digits (without_sign bs)

-- what may follow the first digits of a float; without such digits a point and a digit have to come
abbrev pub float_tail : Bool → List ℕ → Bool
float_tail has_digits [] = false
float_tail has_digits (b ∷ bs) =
    if b == point then (has_digits || begins_with_digit bs) && (is_empty (after_digits bs) || is_exponent (after_digits bs))
    else has_digits && is_exponent (b ∷ bs)

-- digits, a point and any digits, or a point and digits, and then an exponent or nothing; or digits and an exponent
abbrev pub is_unsigned_float : List ℕ → Bool
is_unsigned_float t = float_tail (begins_with_digit t) (after_digits t)

-- A sign or none, then digits with a point or an exponent.
abbrev pub is_float : List ℕ → Bool
is_float w = is_unsigned_float (without_sign w)

-- a number or a symbol
abbrev pub plain_token : List ℕ → Result Token Fault
plain_token w = if spells_integer w then integer_token w else (if is_float w then Err FloatNotSupported else Ok (Symbol w))

-- a name between two stars, of one byte at least
abbrev pub is_starred : List ℕ → Bool
is_starred t = nat_le 3 (length t) && (slice_index t 0 == star && slice_index t (length t - 1) == star)

-- A name without the `*` at each end.
abbrev pub without_stars : List ℕ → List ℕ
without_stars t = slice_range t 1 (length t - 1)

-- a word that begins with `?`, by what follows
abbrev pub variable_token : List ℕ → Token
variable_token [] = Any
variable_token (b ∷ bs) = if is_starred (b ∷ bs) then Global (without_stars (b ∷ bs)) else Var (b ∷ bs)

-- a word that begins with `$?`, by what follows
abbrev pub multivariable_token : List ℕ → Token
multivariable_token [] = MultiAny
multivariable_token (b ∷ bs) = if is_starred (b ∷ bs) then Global (without_stars (b ∷ bs)) else MultiVar (b ∷ bs)

-- a word that begins with `$`, by what follows: a symbol, unless it is `?`
abbrev pub dollar_token : List ℕ → Result Token Fault
dollar_token [] = plain_token (dollar ∷ [])
dollar_token (b ∷ bs) = if b == question_mark then Ok (multivariable_token bs) else plain_token (dollar ∷ b ∷ bs)

-- the token that a word is, or its fault: a variable or wildcard by its first bytes, else a number or a symbol
unfoldable pub token_of : List ℕ → Result Token Fault
token_of [] = plain_token []
token_of (b ∷ bs) = if b == question_mark then Ok (variable_token bs) else (if b == dollar then dollar_token bs else plain_token (b ∷ bs))
