use Rattle.std.proofs.Common.{◌-◌, length}
use Rattle.cb_rete.proofs.Rules.{AreRulesTurnedTo}
use Rattle.cb_rete.proofs.changing.change_rules.Given as goal
use Rattle.cb_rete.specs.Changing.{AreRulesReady, IsTurn, TurnValue}

abbrev pub invariant-loop-at : goal.invariant-loop-at
invariant-loop-at g l =
    (turn : TurnValue) → IsTurn turn l.setting.alphas.now l.found → AreRulesReady turn l.initial.rules.entries
    → AreRulesTurnedTo turn l.found l.at l.initial.rules l.rules l.initial.delta l.delta l.initial.meter l.meter

abbrev pub decreases-loop-at : goal.decreases-loop-at
decreases-loop-at g l = length l.found - l.at
