use Rattle.std.proofs.Common.{◌≡◌, ◌≤◌}
use Rattle.cb_token_lists.specs.Partials.{partial_in}
use Rattle.cb_token_lists.proofs.reading.TokenLists.last_taken.Given as goal

abbrev pub invariant-loop-left : goal.invariant-loop-left
invariant-loop-left l = record {
  same : (partial_in l.self.sources.now l.self.lists.now l.fn.left l.fn.list l.fn.number).parts ≡ (partial_in l.self.sources.now l.self.lists.now l.left l.list l.number).parts;
  left : l.left ≤ l.fn.left;
}

abbrev pub decreases-loop-left : goal.decreases-loop-left
decreases-loop-left l = l.left
