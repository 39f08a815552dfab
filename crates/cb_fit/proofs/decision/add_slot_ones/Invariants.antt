use Rattle.std.proofs.Common.{◌≡◌, ◌++◌, drop}
use Rattle.cb_fit.specs.Internal.Reading.{rows_of}
use Rattle.cb_fit.specs.Decided.{ones}
use Rattle.cb_fit.proofs.decision.add_slot_ones.Given as goal

abbrev pub invariant-loop-slot : goal.invariant-loop-slot
invariant-loop-slot l =
    l.all.items ++ ones (rows_of (drop l.slot-index l.rows)) ≡ l.fn.all.items ++ ones (rows_of l.rows)
