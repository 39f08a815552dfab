use Rattle.std.proofs.Common.{◌≢◌, ◌≤◌, ◌+◌, ℕ, take}
use Rattle.cb_join_node.specs.Meetings.{MayMeetAll}
use Rattle.cb_join_node.specs.Joins.{IsOfFacts}
use Rattle.cb_join_node.specs.Nodes.{tests_of}
use Rattle.cb_matches.specs.Chains.{Chain}
use Rattle.cb_token_lists.specs.Growth.{Comes}
use Rattle.cb_token_lists.specs.Partials.{partial_at}
use Rattle.cb_join_node.proofs.joining.join_facts.Given as goal

abbrev pub invariant-loop-candidate : goal.invariant-loop-candidate
invariant-loop-candidate g l =
    (Chain (λ (i : ℕ) (j : ℕ). i ≢ j) l.candidates → MayMeetAll l.asked (partial_at l.lists.sources.now l.lists.lists.now l.from l.number) l.alpha.candidates l.candidates
    → Comes l.initial.own l.own
    (IsOfFacts l.asked.address l.asked.pattern (tests_of l.asked) (partial_at l.lists.sources.now l.lists.lists.now l.from l.number) l.number l.alpha.candidates (take l.candidate-index l.candidates)))
    × (l.meter ≤ l.initial.meter + l.candidate-index)
