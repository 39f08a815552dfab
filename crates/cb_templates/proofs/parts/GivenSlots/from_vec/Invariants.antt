use Rattle.std.proofs.Common.{◌≡◌, ◌++◌, length}
use Rattle.std.specs.Vec.Iter.{into_iter_items, into_iter_len}
use Rattle.cb_templates.proofs.parts.GivenSlots.from_vec.Given as goal

abbrev pub invariant-loop-slot : goal.invariant-loop-slot
invariant-loop-slot l = (l.given ++ into_iter_items l.slot-iterator ≡ l.fn.slots.items)
    × (into_iter_len l.slot-iterator ≡ length (into_iter_items l.slot-iterator))
