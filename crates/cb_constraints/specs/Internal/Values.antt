-- The values that the constraints of a pattern took, by the lengths of their segments.
use Rattle.std.specs.Prelude.{◌+◌, ◌-◌, ℕ, Bool, true, false, List, [], ◌∷◌, ◌++◌, Option, Some, None, drop, length, slice_get, take}
use Rattle.cb_constraints.specs.Internal.Places.{sites_in}
use Rattle.cb_constraints.specs.PatternValues.{PatternParts, SlotValue}
use Rattle.cb_constraints.specs.PatternValues as pattern
use Rattle.cb_constraints.specs.declared.site.Site.{Site}
use Rattle.cb_constraints.specs.declared.taken.Taken.{Taken}
use Rattle.cb_facts.specs.Facts.{FactContent, content_of}
use Rattle.cb_facts.specs.Facts as fact
use Rattle.cb_facts.specs.Values.{fields_in, value_of_field}
use Rattle.cb_facts.specs.declared.single.Single.{Single}
use Rattle.cb_facts.specs.declared.value.Value.{Value}
use Rattle.cb_facts.specs.declared.value.Value.TheVariants as value

-- how many fields segments of these lengths have together
abbrev pub fields_taken : List ℕ → ℕ
fields_taken [] = 0
fields_taken (n ∷ cuts) = n + fields_taken cuts

-- the value of the fields that a constraint took: the multifield of a segment, or its one field
abbrev pub value_taken : Bool → List Single → Value
value_taken true fields = value.Multi fields
value_taken false [] = value.Multi []
value_taken false (f ∷ fs) = value_of_field f

-- The fields of the first slot, if there is one.
abbrev pub first_fields : List (List ℕ × Value) → List Single
first_fields [] = []
first_fields (s ∷ ss) = fields_in s.1

-- the fields of the slot for which the first of the rows is
abbrev pub first_row_fields : List SlotValue → List (List ℕ × Value) → List Single
first_row_fields [] slots = []
first_row_fields (s ∷ ss) slots = first_fields (drop s.place slots)

-- the fields for which a row is, by its number
abbrev pub fields_of_row : ℕ → PatternParts → FactContent → List Single
fields_of_row r (pattern.fields row) (fact.fields fs) = fs
fields_of_row r (pattern.slots rows) (fact.slots ss) = first_row_fields (drop r rows) ss
fields_of_row r parts content = []

-- the value of a segment of this length, after segments of those lengths, by the site of its constraint
abbrev pub value_at_site : Option Site → PatternParts → FactContent → List ℕ → ℕ → Value
value_at_site None parts content before n = value.Multi []
value_at_site (Some site) parts content before n =
    value_taken site.takes_segment (take n (drop (fields_taken before - fields_taken (take site.start before)) (fields_of_row site.row parts content)))

-- The value of a segment of this length, after segments of those lengths, where its constraint is the one that
-- comes next.
abbrev pub next_value : PatternParts → FactContent → List ℕ → ℕ → Value
next_value parts content before n = value_at_site (slice_get (sites_in parts) (length before)) parts content before n

-- The values of segments with these lengths, after segments of those lengths, one for each constraint that
-- follows.
abbrev pub values_after : PatternParts → FactContent → List ℕ → List ℕ → List Value
values_after parts content before [] = []
values_after parts content before (n ∷ cuts) = next_value parts content before n ∷ values_after parts content (before ++ n ∷ []) cuts

-- The values of segments with these lengths, one for each constraint from the first on.
abbrev pub values_taken : PatternParts → FactContent → List ℕ → List Value
values_taken parts content cuts = values_after parts content [] cuts

-- the values that were taken
abbrev pub values : Taken → List Value
values t = values_taken t.body.now (content_of t.content.now) t.cuts.now
