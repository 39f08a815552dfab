-- The values that a function is given, by their number and their types.
use Rattle.std.specs.Prelude.{ℤ, List, [], ◌∷◌, Result, Ok, Err}
use Rattle.cb_forms.specs.declared.fault.Fault.{Fault}
use Rattle.cb_forms.specs.declared.fault.Fault.TheVariants.{WrongType}
use Rattle.cb_facts.specs.Results.{ok_then, with_first}
use Rattle.cb_facts.specs.declared.single.Single.{Single}
use Rattle.cb_facts.specs.declared.value.Value.{Value}
use Rattle.cb_facts.specs.declared.value.Value.TheVariants as value

-- the only value
abbrev pub only_value : List Value → Result Value Fault
only_value [] = Err WrongType
only_value (v ∷ []) = Ok v
only_value (v ∷ w ∷ vs) = Err WrongType

-- the two values
abbrev pub both_of : List Value → Result (Value × Value) Fault
both_of [] = Err WrongType
both_of (v ∷ vs) = ok_then (λ w. (v, w)) (only_value vs)

-- the number, where an integer is wanted
abbrev pub integer_of : Value → Result ℤ Fault
integer_of (value.Int n) = Ok n
integer_of v = Err WrongType

-- the numbers, where integers alone are wanted
abbrev pub integers_of : List Value → Result (List ℤ) Fault
integers_of [] = Ok []
integers_of (v ∷ vs) = with_first (integer_of v) (integers_of vs)

-- the fields, where a multifield is wanted
abbrev pub fields_of : Value → Result (List Single) Fault
fields_of (value.Multi fields) = Ok fields
fields_of v = Err WrongType

-- the value, where one of a single field is wanted
abbrev pub single_of : Value → Result Value Fault
single_of (value.Multi fields) = Err WrongType
single_of v = Ok v
