use Rattle.std.proofs.Common.{◌≡◌, drop}
use Rattle.cb_number_map.specs.Slots.{first_number}
use Rattle.cb_number_map.proofs.table.Table.number.Given as goal

abbrev pub invariant-loop-slot : goal.invariant-loop-slot
invariant-loop-slot l = first_number l.key (drop l.slot-index l.slot-items) ≡ first_number l.key l.slot-items
