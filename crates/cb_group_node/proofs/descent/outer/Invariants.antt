use Rattle.std.proofs.Common.{ℕ, Option}
use Rattle.cb_group_node.specs.Outer.{FindsMet}
use Rattle.cb_token_lists.specs.Partials.{AreBelow, Meets}
use Rattle.cb_group_node.proofs.descent.outer.Given as goal

abbrev pub invariant-loop-list : goal.invariant-loop-list
invariant-loop-list l =
    AreBelow l.lists.sources.now → (found : Option ℕ) → FindsMet found (λ g. Meets l.lists.sources.now l.lists.lists.now l.from g l.list l.current)
    → FindsMet found (λ g. Meets l.lists.sources.now l.lists.lists.now l.from g l.inner l.number)

abbrev pub decreases-loop-list : goal.decreases-loop-list
decreases-loop-list l = l.list
