-- What only the code needs. How far a search for ways has got with a row.
pub mod Choices
pub mod Codes
pub mod Integers
pub mod Lengths
pub mod Placed
pub mod PlainParts
pub mod Reading
pub mod Searches
pub mod Standing
use Rattle.std.specs.Prelude.{◌==◌, ◌&&◌, ◌||◌, ◌-◌, ℕ, Bool, true, false, List, [], ◌∷◌, ◌++◌, Option, Some, None, map, length, take, drop, nat_le, option_map, option_to_list, replicate, if◌then◌else◌}
use Rattle.std.specs.List.{list_all}
use Rattle.std.specs.Option.{option_and_then, option_map_or}
use Rattle.cb_constraints.specs.Binders.{constraints_in}
use Rattle.cb_constraints.specs.Constraints.{Constraint}
use Rattle.cb_constraints.specs.Holding.{after_demand, may_hold}
use Rattle.cb_constraints.specs.Internal.Known.{bindings_after}
use Rattle.cb_constraints.specs.PatternValues.{PatternParts, SlotValue}
use Rattle.cb_constraints.specs.PatternValues as pattern
use Rattle.cb_constraints.specs.Rows.{after_segments, before_segments, fields_wanted, segments_wanted}
use Rattle.cb_constraints.specs.Internal.Values.{values_taken}
use Rattle.cb_exprs.specs.Bindings.{Bindings}
use Rattle.cb_facts.specs.Facts.{FactContent, content_of}
use Rattle.cb_facts.specs.Facts as fact
use Rattle.cb_facts.specs.Values.{fields_in, value_of_field}
use Rattle.cb_facts.specs.declared.single.Single.{Single}
use Rattle.cb_facts.specs.declared.value.Value.{Value}
use Rattle.cb_fit.specs.Ways.{Taken, after_cuts, after_segment, slot_at, ways_of_row}
use Rattle.cb_fit.specs.Internal.Searches.{SearchValue}

-- the beginning of a way in a row: the lengths of the segments so far, in all rows, the fields of the row that are left, and
-- what variables have
pub record Begun : Type 0 where
  pub cuts : List ℕ
  pub left : List Single
  pub env : Bindings

-- what variables have after segments of these lengths
abbrev pub env_after : SearchValue → List ℕ → Bindings
env_after s cuts = bindings_after (constraints_in s.body) (values_taken s.body s.content cuts) s.before

-- the one after segments of these lengths, so many fields into a row
abbrev pub begun_at : SearchValue → List Single → List ℕ → ℕ → Begun
begun_at s fields cuts at = record { cuts = cuts; left = drop at fields; env = env_after s cuts }

-- the same between two rows
abbrev pub taken_by : SearchValue → List ℕ → Taken
taken_by s cuts = record { cuts = cuts; env = env_after s cuts }

-- it, if a test says so
abbrev pub begun_if : Bool → Begun → List Begun
begun_if true b = b ∷ []
begun_if false b = []

-- all that it becomes, with these constraints still to come
abbrev pub endings : List Constraint → Begun → List Taken
endings cs b = map (after_cuts b.cuts) (ways_of_row cs b.left b.env)

-- what variables have after constraints for one field took one each, from the first on
abbrev pub after_ones : List Constraint → List Single → Bindings → Option Bindings
after_ones [] fields env = Some env
after_ones (c ∷ cs) [] env = None
after_ones (c ∷ cs) (f ∷ fs) env = option_and_then (after_ones cs fs) (after_demand c.demand (value_of_field f) env)

-- constraints for one field may take one each, from the first on, by what they ask by constants
abbrev pub may_take : List Constraint → List Single → Bool
may_take [] fields = true
may_take (c ∷ cs) [] = false
may_take (c ∷ cs) (f ∷ fs) = may_hold c.demand (value_of_field f) && may_take cs fs

-- a constraint takes n fields, and then those for one field that follow it take one each
abbrev pub with_group : Constraint → List Constraint → Begun → ℕ → List Begun
with_group c ones b n =
    option_to_list
    (option_map
    (λ grown.
    record {
      cuts = b.cuts ++ (n ∷ replicate (length ones) 1);
      left = drop (length ones) (drop n b.left);
      env = grown;
    })
    (option_and_then (after_ones ones (drop n b.left)) (after_segment c (take n b.left) b.env)))

-- all constraints are for one field
abbrev pub are_ones : List Constraint → Bool
are_ones cs = segments_wanted cs == 0

-- a row can take so many fields: more than its constraints for one field only where one takes a segment
abbrev pub takes_length : List Constraint → ℕ → Bool
takes_length cs n = if are_ones cs then n == fields_wanted cs else nat_le (fields_wanted cs) n

-- a row can take as many fields as its slot has
abbrev pub slot_takes_length : SlotValue → List (List ℕ × Value) → Bool
slot_takes_length s slots = option_map_or (λ v. takes_length s.row (length (fields_in v))) (slot_at s.place slots) false

-- each row can take as many as its slot has
abbrev pub slots_take_lengths : List SlotValue → List (List ℕ × Value) → Bool
slots_take_lengths rows slots = list_all (λ s. slot_takes_length s slots) rows

-- a pattern can take as many fields as the content of a fact has
abbrev pub take_lengths : PatternParts → FactContent → Bool
take_lengths (pattern.fields row) (fact.fields fs) = takes_length row (length fs)
take_lengths (pattern.slots rows) (fact.slots ss) = slots_take_lengths rows ss
take_lengths parts content = false

-- the constraints before the first that takes a segment may take the first fields
abbrev pub may_take_front : List Constraint → List Single → Bool
may_take_front cs fs = may_take (take (before_segments cs) cs) fs

-- the constraints after the last that takes a segment, or all where none does
abbrev pub after_last : List Constraint → List Constraint
after_last cs = drop (length cs - after_segments cs) cs

-- they may take the last fields
abbrev pub may_take_back : List Constraint → List Single → Bool
may_take_back cs fs = may_take (after_last cs) (drop (length fs - after_segments cs) fs)

-- a row may take these fields, by their number and by the constants that it asks for before its first segment and after its last
abbrev pub may_take_row : List Constraint → List Single → Bool
may_take_row cs fs = takes_length cs (length fs) && (may_take_front cs fs && (are_ones cs || may_take_back cs fs))

-- a row may take the fields of its slot
abbrev pub may_take_slot : SlotValue → List (List ℕ × Value) → Bool
may_take_slot s slots = option_map_or (λ v. may_take_row s.row (fields_in v)) (slot_at s.place slots) false

-- each row may take the fields of its slot
abbrev pub may_take_slots : List SlotValue → List (List ℕ × Value) → Bool
may_take_slots rows slots = list_all (λ s. may_take_slot s slots) rows
