use Rattle.std.proofs.Common.{◌≢◌, ◌≤◌, ◌+◌, ℕ, take}
use Rattle.cb_join_node.specs.Meetings.{MayMeet}
use Rattle.cb_join_node.specs.Joins.{IsOfPartials}
use Rattle.cb_join_node.specs.Nodes.{tests_of}
use Rattle.cb_matches.specs.Chains.{Chain, In}
use Rattle.cb_token_lists.specs.Growth.{Comes}
use Rattle.cb_token_lists.specs.Partials.{partial_at}
use Rattle.cb_join_node.proofs.joining.join_partials.Given as goal

abbrev pub invariant-loop-number : goal.invariant-loop-number
invariant-loop-number g l =
    (Chain (λ (i : ℕ) (j : ℕ). i ≢ j) l.numbers → ((n : ℕ) → In n l.numbers → MayMeet l.asked (partial_at l.lists.sources.now l.lists.lists.now l.from n) l.one)
    → Comes l.initial.own l.own (IsOfPartials l.asked.address l.asked.pattern (tests_of l.asked) (partial_at l.lists.sources.now l.lists.lists.now l.from) (take l.number-index l.numbers) l.candidate l.one))
    × (l.meter ≤ l.initial.meter + l.number-index)
