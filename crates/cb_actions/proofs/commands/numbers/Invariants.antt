use Rattle.std.proofs.Common.{◌≡◌, ◌++◌, map}
use Rattle.cb_actions.proofs.commands.numbers.Given as goal

abbrev pub invariant-loop-rule : goal.invariant-loop-rule
invariant-loop-rule l = l.all.items ++ map (λ r. r.id) l.rule-iterator ≡ map (λ r. r.id) l.rules
