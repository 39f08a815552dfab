use Rattle.std.proofs.Common.{◌<◌, ◌≤◌, ◌-◌, length}
use Rattle.cb_rete.proofs.places.end_of_rule.Given as goal
use Rattle.cb_rete.specs.Found.{AreOfRule}

abbrev pub invariant-loop-at : goal.invariant-loop-at
invariant-loop-at l = record {
  further : l.from < l.at;
  within : l.at ≤ length l.found;
  passed : AreOfRule l.found l.from l.at;
}

abbrev pub decreases-loop-at : goal.decreases-loop-at
decreases-loop-at l = length l.found - l.at
