use Rattle.std.proofs.Common.{◌≡◌, ◌++◌, reverse}
use Rattle.cb_token_lists.specs.Partials.{partial_at, partial_in}
use Rattle.cb_token_lists.proofs.reading.TokenLists.many_parts.Given as goal

abbrev pub invariant-loop-last : goal.invariant-loop-last
invariant-loop-last l =
    (partial_at l.self.sources.now l.self.lists.now l.list l.number).parts ≡ (partial_in l.self.sources.now l.self.lists.now l.left l.reached l.met).parts ++ reverse l.parts.items

abbrev pub decreases-loop-last : goal.decreases-loop-last
decreases-loop-last l = l.left
