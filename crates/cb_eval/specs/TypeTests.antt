-- Tests of a value's type.
use Rattle.std.specs.Prelude.{◌==◌, ◌%◌, ◌||◌, ℤ, Bool, true, false, List, Result, unsigned_abs}
use Rattle.cb_eval.specs.Arguments.{integer_of, only_value}
use Rattle.cb_eval.specs.Constants.{truth}
use Rattle.cb_forms.specs.declared.fault.Fault.{Fault}
use Rattle.cb_facts.specs.Results.{and_then, ok_then}
use Rattle.cb_facts.specs.declared.value.Value.{Value}
use Rattle.cb_facts.specs.declared.value.Value.TheVariants as value

abbrev pub is_integer : Value → Bool
is_integer (value.Int n) = true
is_integer v = false

abbrev pub is_symbol : Value → Bool
is_symbol (value.Symbol bytes) = true
is_symbol v = false

abbrev pub is_string : Value → Bool
is_string (value.Str bytes) = true
is_string v = false

-- The value is a symbol or a string.
abbrev pub is_lexeme : Value → Bool
is_lexeme v = is_symbol v || is_string v

abbrev pub is_even : ℤ → Bool
is_even n = unsigned_abs n % 2 == 0

-- whether a test holds of the only value
abbrev pub tested : (Value → Bool) → List Value → Result Value Fault
tested test vs = ok_then (λ v. truth (test v)) (only_value vs)

-- whether a test holds of the only value, an integer
abbrev pub integer_tested : (ℤ → Bool) → List Value → Result Value Fault
integer_tested test vs = ok_then (λ n. truth (test n)) (and_then (only_value vs) integer_of)
