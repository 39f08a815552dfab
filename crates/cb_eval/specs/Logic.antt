-- What is true, and what decides.
use Rattle.std.specs.Prelude.{Bool, true, false, not, codes}
use Rattle.std.specs.Str.{bytes_eq}
use Rattle.cb_facts.specs.declared.value.Value.{Value}
use Rattle.cb_facts.specs.declared.value.Value.TheVariants as value
use Rattle.cb_words.specs.declared.words.Function.{Function}
use Rattle.cb_words.specs.declared.words.Function.TheVariants as function

-- every value but the symbol FALSE
abbrev pub is_true : Value → Bool
is_true (value.Symbol bytes) = not (bytes_eq bytes (codes "FALSE"))
is_true v = true

-- an argument with this value decides what the call returns, whatever comes after it
abbrev pub decides : Function → Value → Bool
decides function.And v = not (is_true v)
decides function.Or v = is_true v
decides f v = false
