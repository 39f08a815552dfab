-- When a constraint holds of a value, and what variables have then.
use Rattle.std.specs.Prelude.{◌≡◌, ◌+◌, ℕ, Bool, IfSome, length, true, false, not, List, [], ◌∷◌, Option, Some, None, Result, Ok, Err, if◌then◌else◌}
use Rattle.std.specs.List.{list_all, list_any}
use Rattle.std.specs.Option.{option_and_then, option_map_or}
use Rattle.cb_constraints.specs.Constraints.{Test, constant, variable, predicate, return_value, Check, Demand, nothing, each, either}
use Rattle.cb_constraints.specs.declared.tested.Tested.{Tested}
use Rattle.cb_constraints.specs.declared.tested.Tested.TheVariants as tested
use Rattle.cb_eval.specs.Comparison.{same}
use Rattle.cb_eval.specs.Evaluation.{value_of}
use Rattle.cb_eval.specs.Logic.{is_true}
use Rattle.cb_exprs.specs.Bindings.{Bindings, value_at, with_variable}
use Rattle.cb_facts.specs.Values.{value_of_field}
use Rattle.cb_facts.specs.declared.value.Value.{Value}
use Rattle.cb_forms.specs.declared.fault.Fault.{Fault}

-- the value that stands in the place of a constraint
abbrev pub tested_value : Tested → Value
tested_value (tested.Field f) = value_of_field f.now
tested_value (tested.Whole v) = v.now

-- the value of an expression, if it has one: an expression that faults has none
abbrev pub value_if_any : Result Value Fault → Option Value
value_if_any (Ok v) = Some v
value_if_any (Err f) = None

-- what is asked of the value holds, where variables have these values; one for a variable without a value holds of any
abbrev pub test_holds : Test → Value → Bindings → Bool
test_holds (constant w) v env = same v w
test_holds (variable x) v env = option_map_or (same v) (value_at x env.variables) true
test_holds (predicate e) v env = option_map_or is_true (value_if_any (value_of e env)) false
test_holds (return_value e) v env = option_map_or (same v) (value_if_any (value_of e env)) false

-- the opposite, where `~` stands before it
abbrev pub opposite_if : Bool → Bool → Bool
opposite_if negated holds = if negated then not holds else holds

-- What is asked of a value holds, or with `~` its opposite; an expression that faults has no value, and so
-- doesn't hold.
abbrev pub check_holds : Value → Bindings → Check → Bool
check_holds v env c = opposite_if c.negated (test_holds c.test v env)

-- the bindings, if this holds
abbrev pub provided : Bool → Bindings → Option Bindings
provided true env = Some env
provided false env = None

-- a variable without a value takes this one, and one with a value has to have this one
abbrev pub after_variable : List ℕ → Value → Bindings → Option Bindings
after_variable x v env = option_map_or (λ w. provided (same v w) env) (value_at x env.variables) (Some (with_variable x v env))

-- what the bindings are after a check among those joined by `&`, if it holds: a variable without `~` may take the value
abbrev pub after_test : Bool → Test → Value → Bindings → Option Bindings
after_test false (variable x) v env = after_variable x v env
after_test negated t v env = provided (opposite_if negated (test_holds t v env)) env

-- What variables have after a check that holds.
abbrev pub after_check : Check → Value → Bindings → Option Bindings
after_check c v env = after_test c.negated c.test v env

-- after all of them, from left to right
abbrev pub after_checks : List Check → Value → Bindings → Option Bindings
after_checks [] v env = Some env
after_checks (c ∷ cs) v env = option_and_then (after_checks cs v) (after_check c v env)

-- one of the alternatives holds: each of its checks does; here no variable takes a value
abbrev pub one_holds : List (List Check) → Value → Bindings → Bool
one_holds alternatives v env = list_any (list_all (check_holds v env)) alternatives

-- what the bindings are after a constraint, if it holds of the value
abbrev pub after_demand : Demand → Value → Bindings → Option Bindings
after_demand nothing v env = Some env
after_demand (each cs) v env = after_checks cs v env
after_demand (either None alternatives) v env = provided (one_holds alternatives v env) env
after_demand (either (Some x) alternatives) v env = option_and_then (λ grown. provided (one_holds alternatives v grown) grown) (after_variable x v env)

-- a check for a constant holds; one for a variable or an expression, with `~` or without, counts as holding
abbrev pub constant_holds : Value → Bool → Test → Bool
constant_holds v negated (constant w) = opposite_if negated (same v w)
constant_holds v negated (variable x) = true
constant_holds v negated (predicate e) = true
constant_holds v negated (return_value e) = true

-- Of checks joined by `&`, those for constants hold of the value.
abbrev pub constants_hold : Value → List Check → Bool
constants_hold v cs = list_all (λ c. constant_holds v c.negated c.test) cs

-- a test for a constant; one for a variable or an expression is none
abbrev pub is_constant : Test → Bool
is_constant (constant v) = true
is_constant (variable x) = false
is_constant (predicate e) = false
is_constant (return_value e) = false

-- the constraint holds of the value, variables and expressions aside
abbrev pub may_hold : Demand → Value → Bool
may_hold nothing v = true
may_hold (each cs) v = constants_hold v cs
may_hold (either first alternatives) v = list_any (constants_hold v) alternatives

-- a call returned whether a constraint holds, and where it does left these bindings
abbrev pub Meets : Bool → Bindings → Option Bindings → Type 0
Meets true env after = after ≡ Some env
Meets false env after = after ≡ None

-- before each check variables have what the checks before it leave, from the one with this number on
abbrev pub FollowFrom : (ℕ → Bindings) → ℕ → List Check → Value → Type 0
FollowFrom before n [] v = Unit {0}
FollowFrom before n (c ∷ cs) v = IfSome (after_check c v (before n)) (λ grown. before (n + 1) ≡ grown) × FollowFrom before (n + 1) cs v

-- the same of all checks of a constraint; a variable that is set apart is like one
abbrev pub Follows : (ℕ → Bindings) → Demand → Value → Type 0
Follows before nothing v = Unit {0}
Follows before (each cs) v = FollowFrom before 0 cs v
Follows before (either None alternatives) v = Unit {0}
Follows before (either (Some x) alternatives) v = IfSome (after_variable x v (before 0)) (λ grown. before 1 ≡ grown)

-- how many checks see what those before them gave: those joined by `&`, or the variable that is set apart before alternatives
abbrev pub checks_in : Demand → ℕ
checks_in nothing = 0
checks_in (each cs) = length cs
checks_in (either None alternatives) = 0
checks_in (either (Some x) alternatives) = 1

-- a call returned whether a constraint holds, and where it does these are the bindings after its checks
abbrev pub MeetsIn : Bool → (ℕ → Bindings) → Demand → Value → Type 0
MeetsIn holds before d v = Meets holds (before (checks_in d)) (after_demand d v (before 0))
