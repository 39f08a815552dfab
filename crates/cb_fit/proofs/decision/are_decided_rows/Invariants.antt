use Rattle.std.proofs.Common.{◌≡◌, drop}
use Rattle.std.specs.List.{list_all}
use Rattle.cb_fit.specs.Internal.Reading.{is_decided_alone, rows_of}
use Rattle.cb_fit.proofs.decision.are_decided_rows.Given as goal

abbrev pub invariant-loop-slot : goal.invariant-loop-slot
invariant-loop-slot l = list_all is_decided_alone (rows_of (drop l.slot-index l.rows)) ≡ list_all is_decided_alone (rows_of l.rows)
