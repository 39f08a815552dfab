-- The variables of a left side: which have a value where, and what is wrong: one needs a value and has none, or takes an address and has a value.
use Rattle.std.specs.Prelude.{◌++◌, ℕ, Bool, false, not, List, [], ◌∷◌, Option, Some, None, map, if◌then◌else◌}
use Rattle.std.specs.List.{filter, flat_map, list_all}
use Rattle.cb_constraints.specs.Constraints.{Test, constant, variable, predicate, return_value, Check, Demand, nothing, each, either, Constraint}
use Rattle.cb_constraints.specs.PatternValues.{PatternParts, PatternValue, fields, slots}
use Rattle.cb_facts.specs.FaultLists.{unless}
use Rattle.cb_expr_forms.specs.Scopes.{is_known}
use Rattle.cb_expr_forms.specs.Variables.{variables_of}
use Rattle.cb_forms.specs.declared.fault.Fault.{Fault}
use Rattle.cb_forms.specs.declared.fault.Fault.TheVariants.{MalformedForm, UnboundVariable}
use Rattle.cb_rules.specs.Elements.{Element, pattern, test, group, Elements, no_elements, element}

-- a variable is mentioned: it takes the address of a fact, it takes the value in its place if it has none, or it needs a value
pub data Mention : Type 0 where
  address : List ℕ → Mention
  place : List ℕ → Mention
  needed : List ℕ → Mention

-- the variables of a test
abbrev pub test_variables : Test → List (List ℕ)
test_variables (constant v) = []
test_variables (variable x) = x ∷ []
test_variables (predicate t) = variables_of t
test_variables (return_value t) = variables_of t

-- a check that must hold: a variable without `~` may take the value in its place
abbrev pub test_mentions : Bool → Test → List Mention
test_mentions false (variable x) = place x ∷ []
test_mentions negated t = map needed (test_variables t)

-- What a check mentions: a variable without `~` may take the value in its place, and the variables of any other
-- check need values.
abbrev pub check_mentions : Check → List Mention
check_mentions c = test_mentions c.negated c.test

-- the variables of checks joined by `&`
abbrev pub checks_variables : List Check → List (List ℕ)
checks_variables cs = flat_map (λ c. test_variables c.test) cs

-- a variable that is set apart may take the value in its place
abbrev pub apart_mentions : Option (List ℕ) → List Mention
apart_mentions None = []
apart_mentions (Some x) = place x ∷ []

-- what a constraint mentions; what stands beside `|` needs its values
abbrev pub demand_mentions : Demand → List Mention
demand_mentions nothing = []
demand_mentions (each cs) = flat_map check_mentions cs
demand_mentions (either first alternatives) = apart_mentions first ++ map needed (flat_map checks_variables alternatives)

-- a row of constraints
abbrev pub row_mentions : List Constraint → List Mention
row_mentions row = flat_map (λ c. demand_mentions c.demand) row

-- what a pattern mentions, in the order in which it is written
abbrev pub parts_mentions : PatternParts → List Mention
parts_mentions (fields row) = row_mentions row
parts_mentions (slots rows) = flat_map (λ slot. row_mentions slot.row) rows

-- The variable that takes a fact's address is mentioned so, if there is one.
abbrev pub address_mentions : Option (List ℕ) → List Mention
address_mentions None = []
address_mentions (Some x) = address x ∷ []

-- the address comes first
abbrev pub pattern_mentions : Option (List ℕ) → PatternValue → List Mention
pattern_mentions x p = address_mentions x ++ parts_mentions p.parts

-- these names and this one
abbrev pub with_name : List (List ℕ) → List ℕ → List (List ℕ)
with_name known x = if is_known known x then known else known ++ x ∷ []

-- the variables that have a value after a mention, by those that had one
abbrev pub after_mention : List (List ℕ) → Mention → List (List ℕ)
after_mention known (address x) = with_name known x
after_mention known (place x) = with_name known x
after_mention known (needed x) = known

-- a variable that has a value takes no address; one that needs a value must have one
abbrev pub mention_fault : List (List ℕ) → Mention → List Fault
mention_fault known (address x) = unless (not (is_known known x)) MalformedForm
mention_fault known (place x) = []
mention_fault known (needed x) = unless (is_known known x) UnboundVariable

-- what is wrong with mentions, one after another
abbrev pub mention_faults : List (List ℕ) → List Mention → List Fault
mention_faults known [] = []
mention_faults known (m ∷ ms) = mention_fault known m ++ mention_faults (after_mention known m) ms

-- the variables that have a value after them
abbrev pub known_after : List (List ℕ) → List Mention → List (List ℕ)
known_after known [] = known
known_after known (m ∷ ms) = known_after (after_mention known m) ms

-- the variables that have a value after an element; what a group binds is known in the group alone
abbrev pub known_past : List (List ℕ) → Element → List (List ℕ)
known_past known (pattern x p) = known_after known (pattern_mentions x p)
known_past known (test t) = known
known_past known (group positive es) = known

-- the variables that have a value after elements
abbrev pub known_in : List (List ℕ) → Elements → List (List ℕ)
known_in known no_elements = known
known_in known (element e es) = known_in (known_past known e) es

abbrev mutual
  -- what is wrong with the variables of an element, by those that have a value before it
  pub variable_faults : List (List ℕ) → Element → List Fault
  variable_faults known (pattern x p) = mention_faults known (pattern_mentions x p)
  variable_faults known (test t) = mention_faults known (map needed (variables_of t))
  variable_faults known (group positive es) = variables_faults known es

  -- the same of elements, from left to right
  pub variables_faults : List (List ℕ) → Elements → List Fault
  variables_faults known no_elements = []
  variables_faults known (element e es) = variable_faults known e ++ variables_faults (known_past known e) es

-- the variables that each of these branches binds
abbrev pub known_by_all : List Elements → List (List ℕ)
known_by_all [] = []
known_by_all (b ∷ bs) = filter (λ x. list_all (λ c. is_known (known_in [] c) x) bs) (known_in [] b)
