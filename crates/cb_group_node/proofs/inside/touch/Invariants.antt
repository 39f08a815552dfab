use Rattle.std.proofs.Common.{take}
use Rattle.cb_group_node.proofs.Touching.{AreTouched}
use Rattle.cb_token_lists.specs.Partials.{AreBelow, Meets}
use Rattle.cb_group_node.proofs.inside.touch.Given as goal

abbrev pub invariant-loop-number : goal.invariant-loop-number
invariant-loop-number l = AreBelow l.lists.sources.now → AreTouched (λ a i. Meets l.lists.sources.now l.lists.lists.now l.from a l.inner i) (take l.number-index l.numbers) l.initial.touched.items l.touched.items
