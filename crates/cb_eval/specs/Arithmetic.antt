-- Arithmetic. An integer is from -2^63 up to and with 2^63 - 1.
use Rattle.std.specs.Prelude.{◌==◌, ◌^◌, ℤ, pos, negsuc, ◌+ℤ◌, ◌-ℤ◌, ◌*ℤ◌, Bool, List, [], ◌∷◌, Result, Ok, Err, if◌then◌else◌, int_div, int_rem, nat_lt, unsigned_abs}
use Rattle.std.specs.Int.{int_max, int_min}
use Rattle.cb_eval.specs.Arguments.{integer_of, integers_of, only_value}
use Rattle.cb_forms.specs.declared.fault.Fault.{Fault}
use Rattle.cb_forms.specs.declared.fault.Fault.TheVariants.{DivisionByZero, IntegerOverflow, WrongType}
use Rattle.cb_facts.specs.Results.{and_then, ok_then}
use Rattle.cb_facts.specs.declared.value.Value.{Value}
use Rattle.cb_facts.specs.declared.value.Value.TheVariants as value

-- a number fits 64 bits with a sign; `negsuc n` is -(n + 1)
abbrev pub fits_64_bits : ℤ → Bool
fits_64_bits (pos n) = nat_lt n (2 ^ 63)
fits_64_bits (negsuc n) = nat_lt n (2 ^ 63)

-- A number that fits, or CB18.
abbrev pub or_overflow : ℤ → Result ℤ Fault
or_overflow n = if fits_64_bits n then Ok n else Err IntegerOverflow

-- what is made of two numbers
abbrev pub Operator : Type 0
Operator = ℤ → ℤ → Result ℤ Fault

-- The sum of two, or CB18.
abbrev pub sum : Operator
sum n m = or_overflow (n +ℤ m)

-- The difference of two, or CB18.
abbrev pub difference : Operator
difference n m = or_overflow (n -ℤ m)

-- The product of two, or CB18.
abbrev pub product : Operator
product n m = or_overflow (n *ℤ m)

-- truncated toward zero
abbrev pub quotient : Operator
quotient n d = if unsigned_abs d == 0 then Err DivisionByZero else or_overflow (int_div n d)

-- with the sign of the dividend
abbrev pub remainder : Operator
remainder n d = if unsigned_abs d == 0 then Err DivisionByZero else Ok (int_rem n d)

-- The lesser of two.
abbrev pub least : Operator
least n m = Ok (int_min n m)

-- The greater of two.
abbrev pub greatest : Operator
greatest n m = Ok (int_max n m)

-- a number with each of the others, from left to right
abbrev pub with_others : Operator → ℤ → List ℤ → Result ℤ Fault
with_others operator n [] = Ok n
with_others operator n (m ∷ ms) = and_then (operator n m) (λ next. with_others operator next ms)

-- the numbers from left to right
abbrev pub left_to_right : Operator → List ℤ → Result ℤ Fault
left_to_right operator [] = Err WrongType
left_to_right operator (n ∷ ns) = with_others operator n ns

-- the integers from left to right, once all values are known to be integers
abbrev pub calculated : Operator → List Value → Result Value Fault
calculated operator vs = ok_then value.Int (and_then (integers_of vs) (left_to_right operator))

-- the only value, an integer, without its sign
abbrev pub magnitude : List Value → Result Value Fault
magnitude vs = ok_then value.Int (and_then (and_then (only_value vs) integer_of) (λ n. or_overflow (pos (unsigned_abs n))))
