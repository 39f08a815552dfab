use Rattle.std.proofs.Common.{◌<◌, ◌≤◌, ◌-◌}
use Rattle.cb_rete.proofs.places.end_of_branch.Given as goal
use Rattle.cb_rete.specs.Found.{AreOfBranch}

abbrev pub invariant-loop-at : goal.invariant-loop-at
invariant-loop-at l = record {
  further : l.from < l.at;
  within : l.at ≤ l.end;
  passed : AreOfBranch l.found l.from l.at;
}

abbrev pub decreases-loop-at : goal.decreases-loop-at
decreases-loop-at l = l.end - l.at
