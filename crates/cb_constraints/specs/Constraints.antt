-- What a pattern asks of a field, or of a segment of fields.
use Rattle.std.specs.Prelude.{ℕ, Bool, List, Option, map}
use Rattle.cb_constraints.specs.declared.constraint.Check as program_check
use Rattle.cb_constraints.specs.declared.constraint.Constraint as program_constraint
use Rattle.cb_constraints.specs.declared.constraint.Demand as program_demand
use Rattle.cb_constraints.specs.declared.constraint.Demand.TheVariants as demand
use Rattle.cb_constraints.specs.declared.constraint.Test as program_test
use Rattle.cb_constraints.specs.declared.constraint.Test.TheVariants as test
use Rattle.cb_exprs.specs.Terms.{Term, term_of}
use Rattle.cb_facts.specs.declared.value.Value.{Value}

-- what is asked of a value: that it is a constant, or a variable's value, that an expression's value isn't FALSE, or that it
-- is an expression's value
pub data Test : Type 0 where
  constant : Value → Test
  variable : List ℕ → Test
  predicate : Term → Test
  return_value : Term → Test

-- a test, or with `~` its opposite
pub record Check : Type 0 where
  pub negated : Bool
  pub test : Test

-- what a constraint asks: nothing, each of the checks joined by `&`, or one of the alternatives joined by `|`, before which a
-- variable may be set apart
pub data Demand : Type 0 where
  nothing : Demand
  each : List Check → Demand
  either : Option (List ℕ) → List (List Check) → Demand

-- a constraint takes one field, or a segment of none or more
pub record Constraint : Type 0 where
  pub segment : Bool
  pub demand : Demand

-- The test that a value of the program is.
abbrev pub asked_test : program_test.Test → Test
asked_test (test.Constant v) = constant v
asked_test (test.Variable x) = variable x
asked_test (test.Predicate e) = predicate (term_of e.value)
asked_test (test.ReturnValue e) = return_value (term_of e.value)

-- The check that a value of the program is.
abbrev pub check_of : program_check.Check → Check
check_of c = record { negated = c.is_negated; test = asked_test c.test }

-- The demand that a value of the program is.
abbrev pub demand_of : program_demand.Demand → Demand
demand_of demand.Nothing = nothing
demand_of (demand.Each cs) = each (map check_of cs.items)
demand_of (demand.Either first alternatives) = either first (map (λ cs. map check_of cs.items) alternatives.items)

-- the constraint that a `Constraint` of the program is
abbrev pub constraint_of : program_constraint.Constraint → Constraint
constraint_of c = record { segment = c.takes_segment; demand = demand_of c.demand }
