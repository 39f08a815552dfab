-- What decides whether a pattern fits a fact, and what the way is then.
use Rattle.std.specs.Prelude.{◌≡◌, ℕ, Bool, true, false, Contains, List, Some, flat_map, map}
use Rattle.std.specs.Option.{option_map_or}
use Rattle.cb_constraints.specs.Binders.{constraints_in}
use Rattle.cb_constraints.specs.Bound.{given_if}
use Rattle.cb_constraints.specs.Constraints.{Constraint}
use Rattle.cb_constraints.specs.Holding.{value_if_any}
use Rattle.cb_constraints.specs.PatternValues.{PatternValue}
use Rattle.cb_eval.specs.Evaluation.{value_of}
use Rattle.cb_eval.specs.Logic.{is_true}
use Rattle.cb_fit.specs.Comparisons.{ChoiceFieldValue, choice_fields, compared_fields, compares, conditions}
use Rattle.cb_fit.specs.declared.comparison.ComparedField.{ComparedField}
use Rattle.cb_exprs.specs.Bindings.{Bindings, value_at, with_variables}
use Rattle.cb_exprs.specs.Terms.{Term}
use Rattle.cb_facts.specs.Facts.{FactContent}
use Rattle.cb_facts.specs.declared.value.Value.{Value}
use Rattle.cb_fit.specs.FieldPlaces.{field_value}
use Rattle.cb_fit.specs.JoinFields.{giving_fields, join_fields, value_in}
use Rattle.cb_fit.specs.Ways.{WayValue}
use Rattle.cb_fit.specs.declared.join_fields.JoinField.{JoinField}

-- each of these fields has the value of its variable, if that has one
abbrev pub AgreeWith : List JoinField → Bindings → FactContent → Type 0
AgreeWith js before content = (j : JoinField) → Contains js j → (v : Value) → value_at j.variable before.variables ≡ Some v → value_in j content ≡ Some v

-- the variable has a value, and the field is compared with it so
abbrev pub HoldsOf : ComparedField → Bindings → FactContent → Type 0
HoldsOf c before content =
    (v w : Value) × (field_value c.place.slot c.place.field content ≡ Some v) × (value_at c.variable before.variables ≡ Some w) × (compares c.comparison v w ≡ true)

-- each of these fields is
abbrev pub HoldOf : List ComparedField → Bindings → FactContent → Type 0
HoldOf cs before content = (c : ComparedField) → Contains cs c → HoldsOf c before content

-- one of the variables has the field's value, or none
abbrev pub IsOneOf : ChoiceFieldValue → Bindings → FactContent → Type 0
IsOneOf c before content =
    (v : Value) × (x : List ℕ) × (field_value c.place.slot c.place.field content ≡ Some v) × Contains c.variables x × ((w : Value) → value_at x before.variables ≡ Some w → v ≡ w)

-- so it is with each of these fields
abbrev pub AreOneOf : List ChoiceFieldValue → Bindings → FactContent → Type 0
AreOneOf cs before content = (c : ChoiceFieldValue) → Contains cs c → IsOneOf c before content

-- the variable of a field with the field's value, if it has none before
abbrev pub taken_by : Bindings → FactContent → JoinField → List (List ℕ × Value)
taken_by before content j = given_if j.variable (value_at j.variable before.variables) (value_in j content)

-- the same of all these fields, in their order
abbrev pub taken_by_all : List JoinField → Bindings → FactContent → List (List ℕ × Value)
taken_by_all js before content = flat_map (taken_by before content) js

-- one field for each constraint
abbrev pub ones : List Constraint → List ℕ
ones cs = map (λ c. 1) cs

-- the only way in which such a pattern can fit
abbrev pub way_by_values : PatternValue → Bindings → FactContent → WayValue
way_by_values p before content = record { cuts = ones (constraints_in p.parts); bound = taken_by_all (giving_fields p.parts) before content }

-- the expression has a value, which isn't FALSE
abbrev pub is_met : Bindings → Term → Bool
is_met env t = option_map_or is_true (value_if_any (value_of t env)) false

-- so it is with each of the pattern's conditions, where variables have their values behind it
abbrev pub AreMet : PatternValue → Bindings → FactContent → Type 0
AreMet p before content = (t : Term) → Contains (conditions p.parts) t → is_met (with_variables (way_by_values p before content).bound before) t ≡ true

-- what decides, beside the fact's shape: the fields with variables, those that are compared, those with alternatives, and the conditions
abbrev pub ValuesDecide : PatternValue → Bindings → FactContent → Type 0
ValuesDecide p before content =
    AgreeWith (join_fields p.parts) before content
    × HoldOf (compared_fields p.parts) before content
    × AreOneOf (choice_fields p.parts) before content
    × AreMet p before content
