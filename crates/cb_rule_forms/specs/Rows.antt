-- Which constraints a row of them is. Where it has a fault they are any.
use Rattle.std.specs.Prelude.{◌||◌, ◌++◌, ℕ, Bool, true, false, List, [], ◌∷◌, Option, Some, None, drop, is_some, map, if◌then◌else◌}
use Rattle.cb_constraints.specs.Constraints.{Test, constant, variable, predicate, return_value, Check, Demand, nothing, each, either, Constraint}
use Rattle.cb_expr_forms.specs.ExprForms.{expr_of}
use Rattle.cb_facts.specs.declared.value.Value.TheVariants as value
use Rattle.cb_forms.specs.declared.token.Token.{Token}
use Rattle.cb_forms.specs.declared.token.Token.TheVariants as token
use Rattle.cb_rule_forms.specs.Members.{WrittenCheck, Member, wildcard, both, any_of, check}
use Rattle.cb_rule_forms.specs.Members as written
use Rattle.cb_templates.specs.Templates.{Templates}

-- what stands for a check with a fault
abbrev pub no_test : Test
no_test = constant (value.Symbol [])

-- a constant, or a variable in either form
abbrev pub single_test : Token → Test
single_test (token.Symbol bytes) = constant (value.Symbol bytes)
single_test (token.Str bytes) = constant (value.Str bytes)
single_test (token.Int n) = constant (value.Int n)
single_test (token.Var name) = variable name
single_test (token.MultiVar name) = variable name
single_test t = no_test

-- The test that a written check is.
abbrev pub test_in : Templates → WrittenCheck → Test
test_in templates (written.single t) = single_test t
test_in templates (written.predicate t) = predicate (expr_of templates t)
test_in templates (written.return_value t) = return_value (expr_of templates t)
test_in templates w = no_test

-- That test, or its opposite.
abbrev pub check_in : Templates → Bool → WrittenCheck → Check
check_in templates negated w = record { negated = negated; test = test_in templates w }

-- the check is `$?x`, by which its constraint takes a segment
abbrev pub is_several : WrittenCheck → Bool
is_several (written.single (token.MultiVar name)) = true
is_several w = false

-- a constraint: a wildcard, or alternatives joined by `|`, each of checks joined by `&`; and whether it takes a segment
pub data WrittenConstraint : Type 0 where
  wild : Bool → WrittenConstraint
  of_checks : Bool → List (List Check) → WrittenConstraint

-- alternatives, and checks of one more, in front of the first constraint: the checks come to those of its first alternative
abbrev pub put_before : Bool → List (List Check) → List Check → List WrittenConstraint → List WrittenConstraint
put_before several alternatives checks (of_checks more (cs ∷ others) ∷ rest) = of_checks (several || more) (alternatives ++ (checks ++ cs) ∷ others) ∷ rest
put_before several alternatives checks rest = rest

-- the constraints that members are
abbrev pub written_constraints : Templates → List Member → List WrittenConstraint
written_constraints templates [] = []
written_constraints templates (wildcard several ∷ ms) = wild several ∷ written_constraints templates ms
written_constraints templates (check negated w ∷ both ∷ ms) = put_before (is_several w) [] (check_in templates negated w ∷ []) (written_constraints templates ms)
written_constraints templates (check negated w ∷ any_of ∷ ms) = put_before (is_several w) ((check_in templates negated w ∷ []) ∷ []) [] (written_constraints templates ms)
written_constraints templates (check negated w ∷ ms) = of_checks (is_several w) ((check_in templates negated w ∷ []) ∷ []) ∷ written_constraints templates ms
written_constraints templates (m ∷ ms) = written_constraints templates ms

-- the variable that a check is, in either form and without `~`
abbrev pub variable_in : Bool → Test → Option (List ℕ)
variable_in false (variable x) = Some x
variable_in negated t = None

-- the variable that is set apart, where it comes first and `&` follows it
abbrev pub set_apart : List Check → Option (List ℕ)
set_apart (c ∷ d ∷ cs) = variable_in c.negated c.test
set_apart cs = None

-- the checks beside it
abbrev pub beside : List Check → List Check
beside cs = if is_some (set_apart cs) then drop 1 cs else cs

-- what a constraint with these alternatives asks: a variable is set apart where there are several
abbrev pub demand_in : List (List Check) → Demand
demand_in (cs ∷ []) = each cs
demand_in (cs ∷ ds ∷ more) = either (set_apart cs) (beside cs ∷ ds ∷ more)
demand_in [] = nothing

-- The constraint that a written one is: a wildcard, or checks joined by `&` and `|`.
abbrev pub constraint_in : WrittenConstraint → Constraint
constraint_in (wild several) = record { segment = several; demand = nothing }
constraint_in (of_checks several alternatives) = record { segment = several; demand = demand_in alternatives }

-- the constraints of a row
abbrev pub row_in : Templates → List Member → List Constraint
row_in templates ms = map constraint_in (written_constraints templates ms)
