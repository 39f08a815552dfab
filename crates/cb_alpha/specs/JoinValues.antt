-- The values that facts and partial matches are joined on: of fields in a fact, and of their variables.
use Rattle.std.specs.Prelude.{List, [], ◌∷◌, Option, Some, option_map}
use Rattle.std.specs.Option.{option_and_then}
use Rattle.cb_exprs.specs.Bindings.{Bindings, value_at}
use Rattle.cb_facts.specs.Facts.{FactContent}
use Rattle.cb_facts.specs.declared.value.Value.{Value}
use Rattle.cb_fit.specs.JoinFields.{value_in}
use Rattle.cb_fit.specs.declared.join_fields.JoinField.{JoinField}

-- one value more, if there are all
abbrev pub with_first : Option Value → Option (List Value) → Option (List Value)
with_first first others = option_and_then (λ v. option_map (λ vs. v ∷ vs) others) first

-- the values of these fields in the content of a fact, if it has them all
abbrev pub field_values : List JoinField → FactContent → Option (List Value)
field_values [] content = Some []
field_values (j ∷ js) content = with_first (value_in j content) (field_values js content)

-- the values of their variables, if each has one
abbrev pub variable_values : List JoinField → Bindings → Option (List Value)
variable_values [] env = Some []
variable_values (j ∷ js) env = with_first (value_at j.variable env.variables) (variable_values js env)
