-- The ways in which a pattern fits a fact.
use Rattle.std.specs.Prelude.{◌+◌, ℕ, zero, suc, Bool, true, false, List, [], ◌∷◌, ◌++◌, Option, Some, None, map, length, take, drop, flat_map, option_map, option_to_list, if◌then◌else◌}
use Rattle.std.specs.Option.{option_and_then, option_map_or}
use Rattle.std.specs.Str.{bytes_eq}
use Rattle.cb_constraints.specs.Constraints.{Constraint}
use Rattle.cb_constraints.specs.Holding.{after_demand}
use Rattle.cb_constraints.specs.PatternValues.{PatternParts, PatternValue, SlotValue}
use Rattle.cb_constraints.specs.PatternValues as pattern
use Rattle.cb_exprs.specs.Bindings.{Bindings}
use Rattle.cb_facts.specs.Facts.{FactContent, FactValue}
use Rattle.cb_facts.specs.Facts as fact
use Rattle.cb_facts.specs.Values.{fields_in, value_of_field}
use Rattle.cb_facts.specs.declared.single.Single.{Single}
use Rattle.cb_facts.specs.declared.value.Value.{Value}
use Rattle.cb_facts.specs.declared.value.Value.TheVariants as value
use Rattle.cb_constraints.specs.Bound.{newly_bound}

-- what constraints took: the lengths of their segments, one for each, and what variables have after them
pub record Taken : Type 0 where
  pub cuts : List ℕ
  pub env : Bindings

-- the same after segments of these lengths
abbrev pub after_cuts : List ℕ → Taken → Taken
after_cuts before t = record { cuts = before ++ t.cuts; env = t.env }

-- first each of these, and then all that may follow it
abbrev pub each_followed_by : (Bindings → List Taken) → List Taken → List Taken
each_followed_by next firsts = flat_map (λ t. map (after_cuts t.cuts) (next t.env)) firsts

-- The value of the one field; none where there are no fields or several.
abbrev pub value_of_one : List Single → Option Value
value_of_one [] = None
value_of_one (f ∷ []) = Some (value_of_field f)
value_of_one (f ∷ g ∷ fs) = None

-- the value in the place of a constraint: the multifield of a segment, or the one field, if it is one
abbrev pub segment_value : Bool → List Single → Option Value
segment_value true fields = Some (value.Multi fields)
segment_value false fields = value_of_one fields

-- what variables have after a constraint took these fields, if it holds of them
abbrev pub after_segment : Constraint → List Single → Bindings → Option Bindings
after_segment c fields env = option_and_then (λ v. after_demand c.demand v env) (segment_value c.segment fields)

-- a constraint takes the first n of the fields, if it holds of them
abbrev pub with_length : Constraint → List Single → Bindings → ℕ → List Taken
with_length c fields env n =
    option_to_list (option_map (λ grown. record { cuts = n ∷ []; env = grown }) (after_segment c (take n fields) env))

-- n, the number after it, and so on, so many
abbrev pub numbers : ℕ → ℕ → List ℕ
numbers n zero = []
numbers n (suc more) = n ∷ numbers (n + 1) more

-- all ways in which the constraints of a row take all the fields, one segment each; shorter first segments come first
abbrev pub ways_of_row : List Constraint → List Single → Bindings → List Taken
ways_of_row [] [] env = record { cuts = []; env = env } ∷ []
ways_of_row [] (f ∷ fs) env = []
ways_of_row (c ∷ cs) fields env =
    flat_map (λ n. each_followed_by (ways_of_row cs (drop n fields)) (with_length c fields env n)) (numbers 0 (length fields + 1))

-- The value of the first slot, if there is one.
abbrev pub first_value : List (List ℕ × Value) → Option Value
first_value [] = None
first_value (s ∷ ss) = Some s.1

-- the value of the slot at a place, if there is one
abbrev pub slot_at : ℕ → List (List ℕ × Value) → Option Value
slot_at n slots = first_value (drop n slots)

-- all ways in which a row takes the fields of a slot's value
abbrev pub ways_of_slot : SlotValue → List (List ℕ × Value) → Bindings → List Taken
ways_of_slot s slots env = option_map_or (λ v. ways_of_row s.row (fields_in v) env) (slot_at s.place slots) []

-- the rows of slots one after another
abbrev pub ways_of_slots : List SlotValue → List (List ℕ × Value) → Bindings → List Taken
ways_of_slots [] slots env = record { cuts = []; env = env } ∷ []
ways_of_slots (s ∷ ss) slots env = each_followed_by (ways_of_slots ss slots) (ways_of_slot s slots env)

-- all that a pattern asks of the content of a fact
abbrev pub ways_of_parts : PatternParts → FactContent → Bindings → List Taken
ways_of_parts (pattern.fields row) (fact.fields fs) env = ways_of_row row fs env
ways_of_parts (pattern.slots rows) (fact.slots ss) env = ways_of_slots rows ss env
ways_of_parts parts content env = []

-- a way: the lengths of the segments, of which a constraint for one field has the length 1, and the variables that had no
-- value before and have one by it, with these values
pub record WayValue : Type 0 where
  pub cuts : List ℕ
  pub bound : List (List ℕ × Value)

-- the way that took this, where variables had these values before
abbrev pub way_with : PatternParts → Bindings → Taken → WayValue
way_with parts before t = record { cuts = t.cuts; bound = newly_bound parts before t.env }

-- the way with these cuts, where variables had these values before and after
abbrev pub taken_way : PatternValue → Bindings → List ℕ → Bindings → WayValue
taken_way p before cuts after = record { cuts = cuts; bound = newly_bound p.parts before after }

-- all ways in which the pattern fits the fact, where variables have these values
abbrev pub ways : PatternValue → FactValue → Bindings → List WayValue
ways p f env =
    if bytes_eq p.relation f.relation then map (way_with p.parts env) (ways_of_parts p.parts f.content env) else []
