use Rattle.std.proofs.Common.{◌≡◌}
use Rattle.cb_requests.specs.Uses.{is_named_in_rules}
use Rattle.cb_requests.proofs.context.is_named.Given as goal

abbrev pub invariant-loop-rule : goal.invariant-loop-rule
invariant-loop-rule l = is_named_in_rules l.relation l.rule-iterator ≡ is_named_in_rules l.relation l.rules
