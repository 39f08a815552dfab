use Rattle.std.proofs.Common.{◌≡◌, ◌∷◌, [], length, map, true}
use Rattle.cb_constraints.specs.PartValues.{asked_slot}
use Rattle.cb_fit.specs.Internal.{may_take_slots, taken_by}
use Rattle.cb_fit.specs.Internal.Choices.{KeepsFirst, followed_by_rows, segments_in}
use Rattle.cb_fit.specs.Internal.Standing.{AreNext}
use Rattle.cb_fit.specs.Internal.Searches.{search_of}
use Rattle.cb_fit.proofs.search.Search.begin_rows.Given as goal

abbrev pub invariant-loop-row : goal.invariant-loop-row
invariant-loop-row g l =
    (may_take_slots (map asked_slot l.left) l.self.slots.now ≡ true)
    × (followed_by_rows (map asked_slot l.left) l.self.slots.now (taken_by (search_of g.L.Lookup.bindings l.self) l.cuts ∷ []) ≡ followed_by_rows (map asked_slot l.rows) l.self.slots.now (taken_by (search_of g.L.Lookup.bindings l.self) l.fn.cuts ∷ []))
    × (segments_in (map asked_slot l.left) ≡ segments_in (map asked_slot l.rows))
    × AreNext (search_of g.L.Lookup.bindings l.self) (length l.cuts) (map asked_slot l.left)
    × KeepsFirst (length l.fn.cuts) l.fn.cuts l.cuts

abbrev pub decreases-loop-row : goal.decreases-loop-row
decreases-loop-row g l = length l.left
