-- What is asked of a fact by values, where it is known which variables have values before.
use Rattle.std.specs.Prelude.{◌≡◌, ℕ, true, not, List, Option, map}
use Rattle.std.specs.List.{filter}
use Rattle.cb_constraints.specs.PatternValues.{PatternValue}
use Rattle.cb_fit.specs.Decided.{ValuesDecide}
use Rattle.cb_fit.specs.Plain.{is_named}
use Rattle.cb_exprs.specs.Bindings.{Bindings, value_at}
use Rattle.cb_facts.specs.FactLists.{IndexedFacts}
use Rattle.cb_facts.specs.Facts.{FactContent, FactValue}
use Rattle.cb_facts.specs.declared.value.Value.{Value}
use Rattle.cb_fit.specs.JoinFields.{value_in}
use Rattle.cb_fit.specs.Shapes.{is_selected}
use Rattle.cb_fit.specs.declared.join_fields.JoinField.{JoinField}
use Rattle.cb_matches.specs.Chains.{In}
use Rattle.cb_matches.specs.Matches.{Partial}
use Rattle.cb_scopes.specs.Scopes.{Scope}

-- of these fields those with a variable of the scope
abbrev pub known_fields : List JoinField → Scope → List JoinField
known_fields js names = filter (λ (j : JoinField). is_named j.variable names) js

-- and those with another
abbrev pub unknown_fields : List JoinField → Scope → List JoinField
unknown_fields js names = filter (λ (j : JoinField). not (is_named j.variable names)) js

-- the values that their variables have
abbrev pub variable_values : List JoinField → Bindings → List (Option Value)
variable_values js env = map (λ (j : JoinField). value_at j.variable env.variables) js

-- the values that they have in a fact
abbrev pub field_values : List JoinField → FactContent → List (Option Value)
field_values js content = map (λ j. value_in j content) js

-- among these facts there is one with the shape of the pattern and values that decide
abbrev pub Sees : PatternValue → IndexedFacts → Partial → Type 0
Sees p fs m = (f : ℕ × FactValue) × In f fs × (is_selected p f.1 ≡ true) × ValuesDecide p m.env f.1.content
