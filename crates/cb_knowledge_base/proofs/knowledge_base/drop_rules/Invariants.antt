use Rattle.std.proofs.Common.{◌≡◌, false}
use Rattle.cb_knowledge_base.proofs.knowledge_base.drop_rules.Given as goal
use Rattle.cb_knowledge_base.specs.Internal.WorkingMemories.{without_rules}

abbrev pub invariant-loop-number : goal.invariant-loop-number
invariant-loop-number g l =
    (without_rules l.number-iterator (g.M.Matcher.network l.matcher) ≡ without_rules l.numbers.keys (g.M.Matcher.network l.initial.matcher))
    × (g.M.Matcher.is_failed l.matcher ≡ false)
