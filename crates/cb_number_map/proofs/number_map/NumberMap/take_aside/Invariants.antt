use Rattle.std.proofs.Common.{◌≡◌, ◌≢◌, ℕ, None}
use Rattle.cb_number_map.proofs.Maps.{AreLeft}
use Rattle.cb_number_map.specs.Internal.{AreAmong}
use Rattle.cb_number_map.specs.NumberMaps.{number_at}
use Rattle.cb_number_map.specs.Slots.{number_in}
use Rattle.cb_number_map.proofs.number_map.NumberMap.take_aside.Given as goal

abbrev pub invariant-loop-key : goal.invariant-loop-key
invariant-loop-key l = record {
  among : AreAmong l.self l.other;
  table : (key : ℕ) → number_in l.other.table key ≢ None → number_at l.self key ≡ number_at l.other key;
  left : AreLeft l.self l.other l.key-iterator;
}
