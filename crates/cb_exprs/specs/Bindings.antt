-- Which values names have.
use Rattle.std.specs.Prelude.{ℕ, List, [], ◌∷◌, Option}
use Rattle.std.specs.BTreeMap.{insert_entry}
use Rattle.std.specs.Cmp.Lexicographic.{slice_cmp}
use Rattle.std.specs.Map.{lookup, remove_entry}
use Rattle.std.specs.Ordering.{nat_cmp}
use Rattle.std.specs.Str.{bytes_eq}
use Rattle.cb_facts.specs.declared.value.Value.{Value}

-- names, each with its value, in the order of the names
abbrev pub Values : Type 0
Values = List (List ℕ × Value)

-- the value that the name has
abbrev pub value_at : List ℕ → Values → Option Value
value_at name values = lookup (bytes_eq name) values

-- the name has this value now, and each other name the one that it had
abbrev pub with_value : List ℕ → Value → Values → Values
with_value name v values = insert_entry (slice_cmp nat_cmp) values name v

-- the name has no value now
abbrev pub without_value : List ℕ → Values → Values
without_value name values = remove_entry (bytes_eq name) values

-- the values of variables and of global variables
pub record Bindings : Type 0 where
  pub variables : Values
  pub globals : Values

-- No variable has a value.
abbrev pub no_bindings : Bindings
no_bindings = record { variables = []; globals = [] }

-- A variable has this value now.
abbrev pub with_variable : List ℕ → Value → Bindings → Bindings
with_variable name v env = record env { variables = with_value name v env.variables }

-- the variables have these values, given one after another
abbrev pub with_variables : List (List ℕ × Value) → Bindings → Bindings
with_variables [] env = env
with_variables ((name, v) ∷ more) env = with_variables more (with_variable name v env)

-- A variable has no value now.
abbrev pub without_variable : List ℕ → Bindings → Bindings
without_variable name env = record env { variables = without_value name env.variables }

-- A global has this value now.
abbrev pub with_global : List ℕ → Value → Bindings → Bindings
with_global name v env = record env { globals = with_value name v env.globals }
