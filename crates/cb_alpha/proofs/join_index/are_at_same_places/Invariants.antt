use Rattle.std.proofs.Common.{◌≡◌, ◌≤◌, ◌-◌, drop, length}
use Rattle.cb_alpha.specs.AlphaMemories.{AreSameFields}
use Rattle.cb_alpha.proofs.join_index.are_at_same_places.Given as goal

abbrev pub invariant-loop-at : goal.invariant-loop-at
invariant-loop-at l = record {
  within : l.at ≤ length l.some;
  long : length l.some ≡ length l.others;
  same : AreSameFields (drop l.at l.some) (drop l.at l.others) → AreSameFields l.some l.others;
}

abbrev pub decreases-loop-at : goal.decreases-loop-at
decreases-loop-at l = length l.some - l.at
