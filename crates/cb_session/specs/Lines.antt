-- The lines of faults, of values and of limits.
use Rattle.std.specs.Prelude.{ℕ, ◌+◌, ◌/◌, ◌%◌, List, [], ◌∷◌, ◌++◌, codes}
use Rattle.cb_actions.specs.declared.act.Limit.{Limit}
use Rattle.cb_actions.specs.declared.act.Limit.TheVariants.{Numbers, Firings, Turns}
use Rattle.cb_forms.specs.Faults.{number_of, text_of}
use Rattle.cb_forms.specs.declared.fault.Fault.{Fault}
use Rattle.cb_facts.specs.Texts.{quoted_bytes}
use Rattle.cb_facts.specs.declared.value.Value.{Value}

-- a number below 100, in two digits
abbrev pub two_digits : ℕ → List ℕ
two_digits n = (48 + n / 10) ∷ (48 + n % 10) ∷ []

-- a fault
abbrev pub fault_line : Fault → List ℕ
fault_line f = codes "[CB" ++ (two_digits (number_of f) ++ (codes "] " ++ (text_of f ++ codes "\n")))

-- a value at the top level
abbrev pub value_line : Value → List ℕ
value_line v = quoted_bytes v ++ codes "\n"

-- an item is too long
abbrev pub too_long_line : List ℕ
too_long_line = codes "[CB91] form too long\n"

-- a limit at which a script ends
abbrev pub limit_line : Limit → List ℕ
limit_line Numbers = codes "[CB94] numbers exhausted\n"
limit_line Firings = codes "[CB92] firing limit reached\n"
limit_line Turns = codes "[CB93] loop limit reached\n"
