use Rattle.cb_number_map.proofs.Maps.{AreTaken}
use Rattle.cb_number_map.specs.Internal.{AreAmong}
use Rattle.cb_number_map.proofs.number_map.NumberMap.take_table.Given as goal

abbrev pub invariant-loop-slot : goal.invariant-loop-slot
invariant-loop-slot l = record {
  among : AreAmong l.self l.other;
  taken : AreTaken l.self l.other l.slot-items l.slot-index;
}
