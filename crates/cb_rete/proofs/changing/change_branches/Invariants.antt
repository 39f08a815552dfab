use Rattle.std.proofs.Common.{◌-◌}
use Rattle.cb_rete.proofs.Branches.{AreTurnedTo}
use Rattle.cb_rete.proofs.changing.change_branches.Given as goal
use Rattle.cb_rete.specs.Changing.{AreBranchesReady, IsTurn, TurnValue}
use Rattle.cb_rete.specs.Found.{AreAllOfRule}

abbrev pub invariant-loop-at : goal.invariant-loop-at
invariant-loop-at g l =
    (turn : TurnValue) → IsTurn turn l.setting.alphas.now l.found → AreAllOfRule l.found l.from l.end l.rule → AreBranchesReady turn l.rule l.initial.branches
    → AreTurnedTo turn l.found l.rule l.from l.end l.at l.initial.branches l.branches l.initial.delta l.delta l.initial.meter l.meter

abbrev pub decreases-loop-at : goal.decreases-loop-at
decreases-loop-at g l = l.end - l.at
