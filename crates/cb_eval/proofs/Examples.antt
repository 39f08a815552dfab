-- Calls and what they return, worked out by hand from the rules.
use Prim.Native.String.{String}
use Rattle.std.proofs.Common.{◌≡◌, ℤ, pos, negsuc, [], ◌∷◌, Ok, Err, codes, refl}
use Rattle.std.specs.Fmt.{digits}
use Rattle.cb_eval.specs.Applied.{applied}
use Rattle.cb_eval.specs.Constants.{false_symbol, nil_symbol, true_symbol}
use Rattle.cb_forms.specs.declared.fault.Fault.TheVariants.{DivisionByZero, IntegerOverflow, WrongType}
use Rattle.cb_facts.specs.declared.single.Single.TheVariants as single
use Rattle.cb_facts.specs.declared.value.Value.{Value}
use Rattle.cb_facts.specs.declared.value.Value.TheVariants as value
use Rattle.cb_words.specs.declared.words.Function.TheVariants as function

-- integers, symbols and strings, as they stand in a script
abbrev int : ℤ → Value
int n = value.Int n

abbrev word : String → Value
word s = value.Symbol (codes s)

abbrev text : String → Value
text s = value.Str (codes s)

abbrev greatest_int : Value
greatest_int = int (pos 9223372036854775807)

abbrev least_int : Value
least_int = int (negsuc 9223372036854775807)

-- (+ 9223372036854775807 1 -1): the partial result does not fit
sums_from_left_to_right : applied function.Add (greatest_int ∷ int (pos 1) ∷ int (negsuc 0) ∷ []) ≡ Err IntegerOverflow
sums_from_left_to_right = refl

-- (div 1 0 a): types come first
types_come_first : applied function.Div (int (pos 1) ∷ int (pos 0) ∷ word "a" ∷ []) ≡ Err WrongType
types_come_first = refl

-- (div -9223372036854775808 -1 0)
first_fault : applied function.Div (least_int ∷ int (negsuc 0) ∷ int (pos 0) ∷ []) ≡ Err IntegerOverflow
first_fault = refl

-- (div -7 2) and (mod -7 2), (div 7 -2) and (mod 7 -2)
toward_zero : applied function.Div (int (negsuc 6) ∷ int (pos 2) ∷ []) ≡ Ok (int (negsuc 2))
toward_zero = refl

sign_of_the_dividend : applied function.Mod (int (negsuc 6) ∷ int (pos 2) ∷ []) ≡ Ok (int (negsuc 0))
sign_of_the_dividend = refl

divided_by_negative : applied function.Div (int (pos 7) ∷ int (negsuc 1) ∷ []) ≡ Ok (int (negsuc 2))
divided_by_negative = refl

left_by_negative : applied function.Mod (int (pos 7) ∷ int (negsuc 1) ∷ []) ≡ Ok (int (pos 1))
left_by_negative = refl

-- (mod -9223372036854775808 -1), (mod 5 0), (abs -9223372036854775808)
nothing_left : applied function.Mod (least_int ∷ int (negsuc 0) ∷ []) ≡ Ok (int (pos 0))
nothing_left = refl

by_zero : applied function.Mod (int (pos 5) ∷ int (pos 0) ∷ []) ≡ Err DivisionByZero
by_zero = refl

no_magnitude : applied function.Abs (least_int ∷ []) ≡ Err IntegerOverflow
no_magnitude = refl

-- (+ 1): the function takes two or more
too_few : applied function.Add (int (pos 1) ∷ []) ≡ Err WrongType
too_few = refl

-- (< 1 3 2), (<> 1 2 2), (<> 1 2 1), (min 3 -1 2)
each_neighbour : applied function.Less (int (pos 1) ∷ int (pos 3) ∷ int (pos 2) ∷ []) ≡ Ok false_symbol
each_neighbour = refl

others_may_be_equal : applied function.NotEqual (int (pos 1) ∷ int (pos 2) ∷ int (pos 2) ∷ []) ≡ Ok true_symbol
others_may_be_equal = refl

one_equals_the_first : applied function.NotEqual (int (pos 1) ∷ int (pos 2) ∷ int (pos 1) ∷ []) ≡ Ok false_symbol
one_equals_the_first = refl

least_of_three : applied function.Min (int (pos 3) ∷ int (negsuc 0) ∷ int (pos 2) ∷ []) ≡ Ok (int (negsuc 0))
least_of_three = refl

-- (eq a "a"), (and "FALSE"), (not 5)
of_other_types : applied function.Eq (word "a" ∷ text "a" ∷ []) ≡ Ok false_symbol
of_other_types = refl

a_string_is_true : applied function.And (text "FALSE" ∷ []) ≡ Ok true_symbol
a_string_is_true = refl

five_is_true : applied function.Not (int (pos 5) ∷ []) ≡ Ok false_symbol
five_is_true = refl

-- (nth$ 0 (create$ a)), (member$ a (create$ b a a)), (first$ (create$))
before_the_first : applied function.Nth (int (pos 0) ∷ value.Multi (single.Symbol (codes "a") ∷ []) ∷ []) ≡ Ok nil_symbol
before_the_first = refl

second : applied function.Member (word "a" ∷ value.Multi (single.Symbol (codes "b") ∷ single.Symbol (codes "a") ∷ single.Symbol (codes "a") ∷ []) ∷ []) ≡ Ok (int (pos 2))
second = refl

first_of_none : applied function.First (value.Multi [] ∷ []) ≡ Ok (value.Multi [])
first_of_none = refl

-- (sym-cat a "b c" 1), (evenp -3)
one_symbol : applied function.SymCat (word "a" ∷ text "b c" ∷ int (pos 1) ∷ []) ≡ Ok (word "ab c1")
unfolding digits
one_symbol = refl

odd_below_zero : applied function.Evenp (int (negsuc 2) ∷ []) ≡ Ok false_symbol
odd_below_zero = refl
