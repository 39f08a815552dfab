-- Texts joined.
use Rattle.std.specs.Prelude.{ℕ, Bool, true, false, List, Result, Ok, Err, if◌then◌else◌}
use Rattle.std.specs.List.{flat_map, list_all}
use Rattle.cb_forms.specs.declared.fault.Fault.{Fault}
use Rattle.cb_forms.specs.declared.fault.Fault.TheVariants.{WrongType}
use Rattle.cb_facts.specs.Results.{ok_then}
use Rattle.cb_facts.specs.Texts.{plain_bytes}
use Rattle.cb_facts.specs.declared.value.Value.{Value}
use Rattle.cb_facts.specs.declared.value.Value.TheVariants as value

-- symbols, strings and integers can be joined
abbrev pub is_joinable : Value → Bool
is_joinable (value.Symbol bytes) = true
is_joinable (value.Str bytes) = true
is_joinable (value.Int n) = true
is_joinable v = false

-- the texts that values are printed with, one after another
abbrev pub texts_joined : List Value → Result (List ℕ) Fault
texts_joined vs = if list_all is_joinable vs then Ok (flat_map plain_bytes vs) else Err WrongType

-- `str-cat`: the string of the texts of all values.
abbrev pub joined_string : List Value → Result Value Fault
joined_string vs = ok_then value.Str (texts_joined vs)

-- `sym-cat`: the symbol of the same text.
abbrev pub joined_symbol : List Value → Result Value Fault
joined_symbol vs = ok_then value.Symbol (texts_joined vs)
