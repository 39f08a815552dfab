use Rattle.std.proofs.Common.{◌≡◌, ◌++◌, drop}
use Rattle.cb_constraints.specs.Binders.{binders_in}
use Rattle.cb_fit.specs.Internal.Reading.{rows_of}
use Rattle.cb_fit.proofs.decision.add_slot_names.Given as goal

abbrev pub invariant-loop-slot : goal.invariant-loop-slot
invariant-loop-slot l =
    l.all.items ++ binders_in (rows_of (drop l.slot-index l.rows)) ≡ l.fn.all.items ++ binders_in (rows_of l.rows)
