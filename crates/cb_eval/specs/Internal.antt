-- What only the code needs: the numbers of values that are known to be integers, and which functions an argument may decide.
pub mod Operations
use Rattle.std.specs.Prelude.{ℤ, pos, Bool, true, false}
use Rattle.cb_facts.specs.declared.value.Value.{Value}
use Rattle.cb_facts.specs.declared.value.Value.TheVariants as value
use Rattle.cb_words.specs.declared.words.Function.{Function}
use Rattle.cb_words.specs.declared.words.Function.TheVariants as function

-- the number of an integer; no other value is asked for its number
abbrev pub as_number : Value → ℤ
as_number (value.Int n) = n
as_number v = pos 0

-- `and` or `or`: for any other function, no value of an argument decides the call
abbrev pub may_be_decided : Function → Bool
may_be_decided function.And = true
may_be_decided function.Or = true
may_be_decided f = false
