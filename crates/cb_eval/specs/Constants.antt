-- The symbols that functions return.
use Rattle.std.specs.Prelude.{Bool, true, false, codes}
use Rattle.cb_facts.specs.declared.value.Value.{Value}
use Rattle.cb_facts.specs.declared.value.Value.TheVariants as value

abbrev pub true_symbol : Value
true_symbol = value.Symbol (codes "TRUE")

abbrev pub false_symbol : Value
false_symbol = value.Symbol (codes "FALSE")

abbrev pub nil_symbol : Value
nil_symbol = value.Symbol (codes "nil")

-- the symbol that a test returns
abbrev pub truth : Bool → Value
truth true = true_symbol
truth false = false_symbol
