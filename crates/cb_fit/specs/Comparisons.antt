-- Patterns that compare fields with variables, with constants and with one another, beside what plain patterns ask.
use Rattle.std.specs.Prelude.{◌&&◌, ◌||◌, ℕ, ℤ, Bool, true, false, is_some, not, List, [], ◌∷◌, ◌++◌, Option, Some, None, filter, flat_map, map, option_to_list, if◌then◌else◌}
use Rattle.std.specs.List.{list_all}
use Rattle.std.specs.Option.{option_and_then, option_map_or, option_or}
use Rattle.std.specs.Str.{bytes_eq}
use Rattle.cb_constraints.specs.Binders.{binders, binders_in, binders_of, constraints_in}
use Rattle.cb_constraints.specs.Constraints.{Test, constant, variable, predicate, return_value, Check, Demand, nothing, each, either, Constraint}
use Rattle.cb_constraints.specs.PatternValues.{PatternParts, PatternValue}
use Rattle.cb_eval.specs.Comparison.{Comparator, less, less_or_equal, greater, greater_or_equal, same}
use Rattle.cb_fit.specs.JoinFields.{demand_join_fields, place_of}
use Rattle.cb_fit.specs.Plain.{is_named, is_plain_test}
use Rattle.cb_fit.specs.declared.comparison.ComparedField.{ComparedField}
use Rattle.cb_fit.specs.declared.comparison.Comparison.{Comparison}
use Rattle.cb_fit.specs.declared.comparison.Comparison.TheVariants.{Less, LessOrEqual, Greater, GreaterOrEqual, Equal, NotEqual, Same, Differs}
use Rattle.cb_exprs.specs.Terms.{Term, Terms, no_terms, term}
use Rattle.cb_exprs.specs.Terms as expression
use Rattle.cb_facts.specs.declared.value.Value.{Value}
use Rattle.cb_facts.specs.declared.value.Value.TheVariants as value
use Rattle.cb_facts.specs.Facts.{FactContent}
use Rattle.cb_fit.specs.FieldPlaces.{PlacedDemand, field_value, placed_demands}
use Rattle.cb_fit.specs.Settled.{is_settled}
use Rattle.cb_fit.specs.StandsAlone.{are_constants}
use Rattle.cb_fit.specs.declared.field_place.FieldPlace.{FieldPlace}
use Rattle.cb_fit.specs.declared.join_fields.JoinField.{JoinField}
use Rattle.cb_fit.specs.declared.own_field.Operand.{Operand}
use Rattle.cb_fit.specs.declared.own_field.Operand.TheVariants as operand
use Rattle.cb_fit.specs.declared.own_field.OwnField.{OwnField}
use Rattle.cb_words.specs.declared.words.Function.{Function}
use Rattle.cb_words.specs.declared.words.Function.TheVariants as function

-- the value is an integer, and this holds of it
abbrev pub integer_so : (ℤ → Bool) → Value → Bool
integer_so test (value.Int n) = test n
integer_so test v = false

-- both are integers, and they are in this order
abbrev pub both_integers : Comparator → Value → Value → Bool
both_integers order v w = integer_so (λ n. integer_so (order n) w) v

-- the first value is compared with the second; what is no integer is in no order
abbrev pub compares : Comparison → Value → Value → Bool
compares Less v w = both_integers less v w
compares LessOrEqual v w = both_integers less_or_equal v w
compares Greater v w = both_integers greater v w
compares GreaterOrEqual v w = both_integers greater_or_equal v w
compares Equal v w = both_integers (λ n m. true) v w && same v w
compares NotEqual v w = both_integers (λ n m. true) v w && not (same v w)
compares Same v w = same v w
compares Differs v w = not (same v w)

-- the same comparison with the second value first
abbrev pub turned : Comparison → Comparison
turned Less = Greater
turned LessOrEqual = GreaterOrEqual
turned Greater = Less
turned GreaterOrEqual = LessOrEqual
turned Equal = Equal
turned NotEqual = NotEqual
turned Same = Same
turned Differs = Differs

-- the comparison that a function of two values makes, if it makes one
abbrev pub comparison_of : Function → Option Comparison
comparison_of function.Less = Some Less
comparison_of function.LessOrEqual = Some LessOrEqual
comparison_of function.Greater = Some Greater
comparison_of function.GreaterOrEqual = Some GreaterOrEqual
comparison_of function.Equal = Some Equal
comparison_of function.NotEqual = Some NotEqual
comparison_of function.Eq = Some Same
comparison_of function.Neq = Some Differs
comparison_of f = None

-- a comparison with a variable
abbrev pub WithVariable : Type 0
WithVariable = Comparison × List ℕ

-- the variable that an expression is
abbrev pub variable_of : Term → Option (List ℕ)
variable_of (expression.variable x) = Some x
variable_of t = None

-- a comparison of two variables, of which one alone is the field's own: it has the field's value
abbrev pub with_other : List (List ℕ) → Comparison → List ℕ → List ℕ → Option WithVariable
with_other own c x y =
    if is_named x own then (if is_named y own then None else Some (c, y)) else (if is_named y own then Some (turned c, x) else None)

-- the same, where both arguments are variables
abbrev pub with_arguments : List (List ℕ) → Option Comparison → Option (List ℕ) → Option (List ℕ) → Option WithVariable
with_arguments own (Some c) (Some x) (Some y) = with_other own c x y
with_arguments own c x y = None

-- where there are two arguments
abbrev pub compared_call : List (List ℕ) → Function → Terms → Option WithVariable
compared_call own f no_terms = None
compared_call own f (term t no_terms) = None
compared_call own f (term t (term u no_terms)) = with_arguments own (comparison_of f) (variable_of t) (variable_of u)
compared_call own f (term t (term u (term w more))) = None

-- the comparison that an expression makes
abbrev pub compared_term : List (List ℕ) → Term → Option WithVariable
compared_term own (expression.call f ts) = compared_call own f ts
compared_term own t = None

-- the comparison of the field with a variable that a test makes: `~?v`, or an expression as `(< ?w ?v)`, where ?w is the field's own
abbrev pub compared_test : List (List ℕ) → Bool → Test → Option WithVariable
compared_test own negated (constant v) = None
compared_test own true (variable x) = Some (Differs, x)
compared_test own false (variable x) = None
compared_test own true (predicate t) = None
compared_test own false (predicate t) = compared_term own t
compared_test own negated (return_value t) = None

-- a comparison with a constant
abbrev pub WithConstant : Type 0
WithConstant = Comparison × Value

-- the constant that an expression is
abbrev pub constant_of : Term → Option Value
constant_of (expression.constant v) = Some v
constant_of t = None

-- a comparison of the field with a constant, where a variable that is the field's own stands for the field
abbrev pub with_constant : List (List ℕ) → Comparison → Option (List ℕ) → Option Value → Option WithConstant
with_constant own c (Some x) (Some v) = if is_named x own then Some (c, v) else None
with_constant own c x v = None

-- the same, where one argument is the variable and the other is the constant
abbrev pub limited_arguments : List (List ℕ) → Comparison → Term → Term → Option WithConstant
limited_arguments own c t u = option_or (with_constant own c (variable_of t) (constant_of u)) (with_constant own (turned c) (variable_of u) (constant_of t))

-- where there are two arguments
abbrev pub limited_call : List (List ℕ) → Function → Terms → Option WithConstant
limited_call own f no_terms = None
limited_call own f (term t no_terms) = None
limited_call own f (term t (term u no_terms)) = option_and_then (λ c. limited_arguments own c t u) (comparison_of f)
limited_call own f (term t (term u (term w more))) = None

-- the comparison with a constant that an expression makes
abbrev pub limited_term : List (List ℕ) → Term → Option WithConstant
limited_term own (expression.call f ts) = limited_call own f ts
limited_term own t = None

-- the comparison of the field with a constant that a test makes: an expression as `(< ?w 3)`, where ?w is the field's own
abbrev pub limited_test : List (List ℕ) → Bool → Test → Option WithConstant
limited_test own negated (constant v) = None
limited_test own negated (variable x) = None
limited_test own true (predicate t) = None
limited_test own false (predicate t) = limited_term own t
limited_test own negated (return_value t) = None

-- the condition that a test makes: an expression without `~` before it that makes no comparison
abbrev pub condition_test : List (List ℕ) → Bool → Test → Option Term
condition_test own negated (constant v) = None
condition_test own negated (variable x) = None
condition_test own true (predicate t) = None
condition_test own false (predicate t) = if is_some (compared_term own t) || is_some (limited_term own t) then None else Some t
condition_test own negated (return_value t) = None

-- a test that is plain, or compares, or makes a condition
abbrev pub is_decided_test : List (List ℕ) → Bool → Test → Bool
is_decided_test own negated t =
    is_plain_test negated t || ((is_some (compared_test own negated t) || is_some (limited_test own negated t)) || is_some (condition_test own negated t))

-- each of the checks joined by `&` is such, after these: the variables before a check are the field's own
abbrev pub are_decided_checks : List Check → List Check → Bool
are_decided_checks before [] = true
are_decided_checks before (c ∷ cs) = is_decided_test (binders_of before) c.negated c.test && are_decided_checks (before ++ c ∷ []) cs

-- the comparisons that they make
abbrev pub compared_checks : List Check → List Check → List WithVariable
compared_checks before [] = []
compared_checks before (c ∷ cs) = option_to_list (compared_test (binders_of before) c.negated c.test) ++ compared_checks (before ++ c ∷ []) cs

-- their comparisons with constants
abbrev pub limited_checks : List Check → List Check → List WithConstant
limited_checks before [] = []
limited_checks before (c ∷ cs) = option_to_list (limited_test (binders_of before) c.negated c.test) ++ limited_checks (before ++ c ∷ []) cs

-- their conditions
abbrev pub condition_checks : List Check → List Check → List Term
condition_checks before [] = []
condition_checks before (c ∷ cs) = option_to_list (condition_test (binders_of before) c.negated c.test) ++ condition_checks (before ++ c ∷ []) cs

-- each of their conditions is settled, in a pattern that may give values to these names, behind fields with these variables
abbrev pub are_settled_checks : List (List ℕ) → List (List ℕ) → List Check → List Check → Bool
are_settled_checks names stand before [] = true
are_settled_checks names stand before (c ∷ cs) =
    list_all (is_settled names stand (binders_of before)) (option_to_list (condition_test (binders_of before) c.negated c.test)) && are_settled_checks names stand (before ++ c ∷ []) cs

-- a variable without `~`
abbrev pub is_variable : Bool → Test → Bool
is_variable false (variable x) = true
is_variable negated t = false

-- an alternative that is a variable alone
abbrev pub is_one_variable : List Check → Bool
is_one_variable [] = false
is_one_variable (c ∷ []) = is_variable c.negated c.test
is_one_variable (c ∷ d ∷ cs) = false

-- what a constraint asks is plain, or compares, or makes conditions, or is alternatives that are variables, as `?a|?b`
abbrev pub is_decided_demand : Demand → Bool
is_decided_demand nothing = true
is_decided_demand (each cs) = are_decided_checks [] cs
is_decided_demand (either first alternatives) = list_all are_constants alternatives || list_all is_one_variable alternatives

-- the comparisons that it makes
abbrev pub comparisons : Demand → List WithVariable
comparisons nothing = []
comparisons (each cs) = compared_checks [] cs
comparisons (either first alternatives) = []

-- its comparisons with constants
abbrev pub limits : Demand → List WithConstant
limits nothing = []
limits (each cs) = limited_checks [] cs
limits (either first alternatives) = []

-- the conditions that it makes
abbrev pub demand_conditions : Demand → List Term
demand_conditions nothing = []
demand_conditions (each cs) = condition_checks [] cs
demand_conditions (either first alternatives) = []

-- they are settled
abbrev pub is_settled_demand : List (List ℕ) → List (List ℕ) → Demand → Bool
is_settled_demand names stand nothing = true
is_settled_demand names stand (each cs) = are_settled_checks names stand [] cs
is_settled_demand names stand (either first alternatives) = true

-- the variables of alternatives that aren't constants
abbrev pub choices_of : Bool → List (List Check) → List (List (List ℕ))
choices_of true alternatives = []
choices_of false alternatives = flat_map binders_of alternatives ∷ []

-- the variables of which a field is to be equal to one
abbrev pub choices : Demand → List (List (List ℕ))
choices nothing = []
choices (each cs) = []
choices (either first alternatives) = choices_of (list_all are_constants alternatives) alternatives

-- and it takes one field
abbrev pub is_decided_constraint : Constraint → Bool
is_decided_constraint c = not c.segment && is_decided_demand c.demand

-- the field at this place is compared so with these variables
abbrev pub compared_at : FieldPlace → List WithVariable → List ComparedField
compared_at at cs = map (λ (c : WithVariable). record { place = at; comparison = c.0; variable = c.1 }) cs

-- the first of these fields with a variable, which has its value
abbrev pub field_of : List JoinField → List ℕ → Option FieldPlace
field_of [] x = None
field_of (j ∷ js) x = if bytes_eq x j.variable then Some (place_of j) else field_of js x

-- the field at this place is compared so with another, if there is one
abbrev pub own_at : FieldPlace → Comparison → Option FieldPlace → List OwnField
own_at at c None = []
own_at at c (Some other) = record { place = at; comparison = c; other = operand.Field other } ∷ []

-- the field at this place is equal to the first with each of these variables, if that stands before
abbrev pub repeated_at : List JoinField → FieldPlace → List (List ℕ) → List OwnField
repeated_at before at names = flat_map (λ x. own_at at Same (field_of before x)) names

-- the field at this place is compared with the first fields with these variables that stand before
abbrev pub own_compared_at : List JoinField → FieldPlace → List WithVariable → List OwnField
own_compared_at before at cs = flat_map (λ (c : WithVariable). own_at at c.0 (field_of before c.1)) cs

-- the field at this place is compared so with these constants
abbrev pub own_limits_at : FieldPlace → List WithConstant → List OwnField
own_limits_at at cs = map (λ (c : WithConstant). record { place = at; comparison = c.0; other = operand.Constant c.1 }) cs

-- what the field at this place, of which this is asked, is compared with in the fact: constants, and the first fields with variables
-- that stand before
abbrev pub own_fields_at : List JoinField → FieldPlace → Demand → List OwnField
own_fields_at before at d = own_limits_at at (limits d) ++ (repeated_at before at (binders d) ++ own_compared_at before at (comparisons d))

-- the comparisons with variables that don't stand before
abbrev pub with_others : List JoinField → List WithVariable → List WithVariable
with_others before cs = filter (λ (c : WithVariable). not (is_some (field_of before c.1))) cs

-- fields of one fact that are compared with constants and with one another, after these fields of the pattern with variables: a variable
-- that stands before has the value of the first field that it stands in
abbrev pub own_fields_from : List JoinField → List PlacedDemand → List OwnField
own_fields_from before [] = []
own_fields_from before (d ∷ ds) = own_fields_at before d.place d.demand ++ own_fields_from (before ++ demand_join_fields d) ds

-- the fields that are compared with other variables, after these
abbrev pub compared_from : List JoinField → List PlacedDemand → List ComparedField
compared_from before [] = []
compared_from before (d ∷ ds) = compared_at d.place (with_others before (comparisons d.demand)) ++ compared_from (before ++ demand_join_fields d) ds

-- all fields that a pattern compares with variables that don't stand before in it
abbrev pub compared_fields : PatternParts → List ComparedField
compared_fields p = compared_from [] (placed_demands p)

-- a field of a fact, and the variables of which it is to be equal to one
pub record ChoiceFieldValue : Type 0 where
  pub place : FieldPlace
  pub variables : List (List ℕ)

-- the field at this place is to be equal to one variable of each of these lists
abbrev pub chosen_at : FieldPlace → List (List (List ℕ)) → List ChoiceFieldValue
chosen_at at sets = map (λ names. record { place = at; variables = names }) sets

-- a field of a fact, with the variables of its alternatives, if it has such
abbrev pub demand_choice_fields : PlacedDemand → List ChoiceFieldValue
demand_choice_fields d = chosen_at d.place (choices d.demand)

-- all fields that are to be equal to one of several variables
abbrev pub choice_fields : PatternParts → List ChoiceFieldValue
choice_fields p = flat_map demand_choice_fields (placed_demands p)

-- the conditions of a pattern: they are to hold beside all else that it asks
abbrev pub conditions : PatternParts → List Term
conditions p = flat_map (λ (d : PlacedDemand). demand_conditions d.demand) (placed_demands p)

-- those of what is asked of several fields are settled, behind fields with these variables
abbrev pub are_settled_from : List (List ℕ) → List (List ℕ) → List Demand → Bool
are_settled_from names stand [] = true
are_settled_from names stand (d ∷ ds) = is_settled_demand names stand d && are_settled_from names (stand ++ binders d) ds

-- those of a pattern are
abbrev pub settles : PatternParts → Bool
settles p = are_settled_from (binders_in (constraints_in p)) [] (map (λ (d : PlacedDemand). d.demand) (placed_demands p))

-- the variable is none of these
abbrev pub is_other : List (List ℕ) → List ℕ → Bool
is_other names x = not (is_named x names)

-- the field of a constraint is compared with other variables than those that the constraint may give values
abbrev pub compares_others : Constraint → Bool
compares_others c = list_all (λ (it : WithVariable). is_other (binders c.demand) it.1) (comparisons c.demand)

-- no variable among alternatives stands in the pattern elsewhere
abbrev pub chooses_others : PatternParts → Bool
chooses_others p = list_all (λ (c : ChoiceFieldValue). list_all (is_other (binders_in (constraints_in p))) c.variables) (choice_fields p)

-- what is asked is decided by values: each constraint is, and compares its field with other variables than its own, and so it is with
-- alternatives; and the conditions are settled
abbrev pub are_decided_parts : PatternParts → Bool
are_decided_parts p = list_all (λ c. is_decided_constraint c && compares_others c) (constraints_in p) && (chooses_others p && settles p)

-- a pattern that is decided by values
abbrev pub is_decided : PatternValue → Bool
is_decided p = are_decided_parts p.parts

-- the fields of one fact that a pattern compares with constants and with one another, if it is decided by values
abbrev pub own_fields : PatternParts → List OwnField
own_fields p = if are_decided_parts p then own_fields_from [] (placed_demands p) else []

-- the value of what a field is compared with: of another field that in the fact, if there is one, and of a constant the constant
abbrev pub operand_value : Operand → FactContent → Option Value
operand_value (operand.Field at) content = field_value at.slot at.field content
operand_value (operand.Constant v) content = Some v

-- a field of a fact compares so with another, or with a constant
abbrev pub own_holds : FactContent → OwnField → Bool
own_holds content o =
    option_map_or (λ v. option_map_or (compares o.comparison v) (operand_value o.other content) false) (field_value o.place.slot o.place.field content) false

-- and so do all of these
abbrev pub all_own_hold : List OwnField → FactContent → Bool
all_own_hold os content = list_all (own_holds content) os

-- what decides beside the fact's shape and the fields with variables: the fields that are compared, those with alternatives, and the
-- conditions
pub record DecisionValue : Type 0 where
  pub compared : List ComparedField
  pub chosen : List ChoiceFieldValue
  pub conditions : List Term

-- what decides, of a pattern that is decided by values
abbrev pub decision : PatternParts → Option DecisionValue
decision p = if are_decided_parts p then Some (record { compared = compared_fields p; chosen = choice_fields p; conditions = conditions p }) else None
