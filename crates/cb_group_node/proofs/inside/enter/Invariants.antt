use Rattle.std.proofs.Common.{take}
use Rattle.cb_matches.specs.Chains.{In}
use Rattle.cb_group_node.specs.Internal.{Enters}
use Rattle.cb_token_lists.specs.Partials.{AreBelow, Meets}
use Rattle.cb_group_node.proofs.inside.enter.Given as goal

abbrev pub invariant-loop-number : goal.invariant-loop-number
invariant-loop-number l = AreBelow l.lists.sources.now → Enters (λ a i. Meets l.lists.sources.now l.lists.lists.now l.from a l.inner i) (λ i. In i (take l.number-index l.numbers)) l.initial.inside l.inside
