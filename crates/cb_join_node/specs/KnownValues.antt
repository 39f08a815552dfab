-- What compared variables have by a partial match, read once for several facts.
use Rattle.std.specs.Prelude.{◌≡◌, ⊤, List, Option, Some, None, map}
use Rattle.cb_exprs.specs.Bindings.{Bindings, value_at}
use Rattle.cb_facts.specs.declared.value.Value.{Value}
use Rattle.cb_fit.specs.declared.comparison.ComparedField.{ComparedField}
use Rattle.cb_join_node.specs.declared.by_values.ByValues.{ByValues}
use Rattle.cb_join_node.specs.declared.joining.Joining.{Joining}
use Rattle.smallvec.specs.SmallVec.{SmallVec}

-- what the variables have with which these fields are compared
abbrev pub compared_values : List ComparedField → Bindings → List (Option Value)
compared_values cs env = map (λ (c : ComparedField). value_at c.variable env.variables) cs

-- these have been read, if anything has
abbrev pub IsRead : List ComparedField → Bindings → Option (SmallVec (Option Value)) → Type 0
IsRead cs env None = ⊤
IsRead cs env (Some values) = values.items ≡ compared_values cs env

module _ {T : Type 0} where
  -- where a pattern is joined by values, they are those that it compares
  abbrev pub AreRead : Joining T → Bindings → Option (SmallVec (Option Value)) → Type 0
  AreRead asked env read = (by : ByValues) → asked.by_values ≡ Some by → IsRead by.compared.items env read
