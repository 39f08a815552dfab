-- What a search for ways still has to try.
use Rattle.std.specs.Prelude.{◌≡◌, ◌<◌, ◌≤◌, ◌+◌, ◌-◌, ◌*◌, ◌^◌, ℕ, zero, suc, IsSomeAnd, Bool, true, false, List, [], ◌∷◌, ◌++◌, Option, Some, None, flat_map, length, map, take}
use Rattle.cb_constraints.specs.Constraints.{Constraint, constraint_of}
use Rattle.cb_constraints.specs.PartValues.{asked_slot}
use Rattle.cb_constraints.specs.PatternValues.{SlotValue}
use Rattle.cb_constraints.specs.Rows.{before_segments, fields_wanted, segments_wanted}
use Rattle.cb_constraints.specs.Internal.RowFields.{row_fields}
use Rattle.cb_facts.specs.declared.value.Value.{Value}
use Rattle.cb_fit.specs.Internal.{Begun, begun_at, endings, may_take_slots, with_group}
use Rattle.cb_fit.specs.Internal.Searches.{SearchValue}
use Rattle.cb_fit.specs.Internal.Standing.{AreNext, IsAt}
use Rattle.cb_fit.specs.Shapes.{has_way}
use Rattle.cb_fit.specs.WayValues.{way_of}
use Rattle.cb_fit.specs.Ways.{Taken, WayValue, each_followed_by, numbers, way_with, ways_of_slots}
use Rattle.cb_fit.specs.declared.choice.Choice as program
use Rattle.cb_fit.specs.declared.rest.Rest as program_rest
use Rattle.cb_fit.specs.declared.way.Way as program_way

-- what is left of a row begins with a constraint for a segment, and wants so many fields
abbrev pub IsRest : program_rest.Rest → Type 0
IsRest r = (before_segments (map constraint_of r.constraints.now) ≡ 0) × (r.wanted ≡ fields_wanted (map constraint_of r.constraints.now))

-- the ways that took these
abbrev pub as_ways : SearchValue → List Taken → List WayValue
as_ways s ts = map (way_with s.body s.before) ts

-- what the rows of slots make of these
abbrev pub followed_by_rows : List SlotValue → List (List ℕ × Value) → List Taken → List Taken
followed_by_rows rows slots ts = each_followed_by (ways_of_slots rows slots) ts

-- the lengths before the segment of a choice, where a search keeps these
abbrev pub cuts_before : program.Choice → List ℕ → List ℕ
cuts_before c cuts = take c.number cuts

-- the constraints of the row from that of the choice on
abbrev pub constraints_from : program.Choice → List Constraint
constraints_from c = constraint_of c.constraint.now ∷ (map constraint_of c.ones.now ++ map constraint_of c.rest.now)

-- the beginnings with a segment that ends at a place, or at one of so many after it, where those lengths came before
abbrev pub group_from : SearchValue → List ℕ → program.Choice → ℕ → ℕ → List Begun
group_from s before c to count =
    flat_map (with_group (constraint_of c.constraint.now) (map constraint_of c.ones.now) (begun_at s (row_fields c.fields) before c.at)) (numbers (to - c.at) count)

-- all that they become in the row
abbrev pub choice_endings : SearchValue → List ℕ → program.Choice → List Taken
choice_endings s before c = flat_map (endings (map constraint_of c.rest.now)) (group_from s before c c.to (c.last + 1 - c.to))

-- and with the rows of slots that follow
abbrev pub choice_ways : SearchValue → List ℕ → program.Choice → List Taken
choice_ways s before c = followed_by_rows (map asked_slot c.rows.now) s.slots (choice_endings s before c)

-- the same, if there is a choice, where a search keeps these lengths
abbrev pub ways_if : SearchValue → List ℕ → Option program.Choice → List Taken
ways_if s cuts None = []
ways_if s cuts (Some c) = choice_ways s (cuts_before c cuts) c

-- the ways that are kept, and those that a choice becomes, if there is one
abbrev pub kept_with : SearchValue → List ℕ → List program_way.Way → Option program.Choice → List WayValue
kept_with s cuts kept next = map way_of kept ++ as_ways s (ways_if s cuts next)

-- the ways that are found are all, or where one is enough some if there are any
abbrev pub AreEnough : Bool → List WayValue → List WayValue → Type 0
AreEnough false found all = found ≡ all
AreEnough true found all = has_way found ≡ has_way all

-- all that becomes of a choice where its segment ends after a place
abbrev pub ways_after : SearchValue → List ℕ → program.Choice → ℕ → List Taken
ways_after s before c to = followed_by_rows (map asked_slot c.rows.now) s.slots (flat_map (endings (map constraint_of c.rest.now)) (group_from s before c (to + 1) (c.last - to)))

-- all that choices become, of which the last is taken up first
abbrev pub ways_left : SearchValue → List ℕ → List (Option program.Choice) → List Taken
ways_left s cuts [] = []
ways_left s cuts (c ∷ cs) = ways_left s cuts cs ++ ways_if s cuts c

-- a choice is as it was opened, or has fewer places left; where no other segment follows, it has one place, after which the
-- constraints for one field take all fields that are left
pub record IsChoice (c : program.Choice) : Type 0 where
  pub segment : (constraint_of c.constraint.now).segment ≡ true
  pub ones : segments_wanted (map constraint_of c.ones.now) ≡ 0
  pub rest : before_segments (map constraint_of c.rest.now) ≡ 0
  pub wanted : c.wanted ≡ fields_wanted (map constraint_of c.rest.now)
  pub begun : c.at ≤ c.to
  pub order : c.to ≤ c.last
  pub within : c.last + length c.ones.now ≤ length (row_fields c.fields)
  pub room : c.last + length c.ones.now < 2 ^ 64
  pub alone : c.rest.now ≡ [] → c.to ≡ c.last
  pub ended : c.rest.now ≡ [] → c.last + length c.ones.now ≡ length (row_fields c.fields)

-- its constraint is the one that comes after those lengths, and its rows come after the row
pub record IsIn (s : SearchValue) (before : List ℕ) (c : program.Choice) : Type 0 where
  pub number : c.number ≡ length before
  pub place : IsAt s (row_fields c.fields) before c.at (constraints_from c)
  pub next : AreNext s (length before + length (constraints_from c)) (map asked_slot c.rows.now)

-- and the rows that follow it may take the fields of their slots
pub record IsOpen (s : SearchValue) (cuts : List ℕ) (c : program.Choice) : Type 0 where
  pub choice : IsChoice c
  pub inside : IsIn s (cuts_before c cuts) c
  pub rows : may_take_slots (map asked_slot c.rows.now) s.slots ≡ true

-- the number of the constraint of a choice, if there is one
abbrev pub constraint_number : Option program.Choice → ℕ
constraint_number None = 0
constraint_number (Some c) = c.number

-- each has its constraint after so many at least
abbrev pub AreFrom : ℕ → List (Option program.Choice) → Type 0
AreFrom n [] = Unit {0}
AreFrom n (c ∷ cs) = (n ≤ constraint_number c) × AreFrom n cs

-- and after so many at most
abbrev pub AreUpTo : ℕ → List (Option program.Choice) → Type 0
AreUpTo n [] = Unit {0}
AreUpTo n (c ∷ cs) = (constraint_number c ≤ n) × AreUpTo n cs

-- each of them is so, and those that were opened later stand no earlier in the pattern
abbrev pub AreOpen : SearchValue → List ℕ → List (Option program.Choice) → Type 0
AreOpen s cuts [] = Unit {0}
AreOpen s cuts (c ∷ cs) = IsSomeAnd c (IsOpen s cuts) × AreFrom (constraint_number c) cs × AreOpen s cuts cs

-- the first so many lengths stayed as they were
abbrev pub KeepsFirst : ℕ → List ℕ → List ℕ → Type 0
KeepsFirst n old new = (take n new ≡ take n old) × (n ≤ length new)

-- how many constraints for a segment are in these rows
abbrev pub segments_in : List SlotValue → ℕ
segments_in [] = 0
segments_in (s ∷ ss) = segments_wanted s.row + segments_in ss

-- no more tries than this are needed for so many segments
abbrev pub most_tries : ℕ → ℕ
most_tries zero = 0
most_tries (suc more) = 2 ^ 64 * suc (most_tries more)

-- nor than this after an end of a choice's segment
abbrev pub tries_after : program.Choice → ℕ → ℕ
tries_after c to = (c.last - to) * suc (most_tries (segments_wanted (map constraint_of c.rest.now) + segments_in (map asked_slot c.rows.now)))

-- nor than this for a choice
abbrev pub tries : program.Choice → ℕ
tries c = (c.last + 1 - c.to) * suc (most_tries (segments_wanted (map constraint_of c.rest.now) + segments_in (map asked_slot c.rows.now)))

-- the same, if there is a choice
abbrev pub tries_if : Option program.Choice → ℕ
tries_if None = 0
tries_if (Some c) = tries c

-- nor than this for all that are open
abbrev pub tries_left : List (Option program.Choice) → ℕ
tries_left [] = 0
tries_left (c ∷ cs) = tries_if c + tries_left cs
