use Rattle.std.proofs.Common.{◌≢◌, ◌≤◌, ◌+◌, ◌*◌, ◌⊎◌, ℕ, take}
use Rattle.cb_alpha.specs.AlphaMemories.{live}
use Rattle.cb_beta.specs.BetaMemories.{BetaMemoryValue}
use Rattle.cb_join_node.specs.Meetings.{AreSelected, KnowsValues}
use Rattle.cb_join_node.specs.Filings.{ArePartialsFiled}
use Rattle.cb_join_node.specs.Joins.{Joins}
use Rattle.cb_join_node.specs.Nodes.{AreAtMost, FindsFacts, IsUnder, Stays, tests_of}
use Rattle.cb_matches.specs.Chains.{Chain, In}
use Rattle.cb_nodes.specs.Patterns.{AreJoinFields}
use Rattle.cb_token_lists.specs.Growth.{Comes}
use Rattle.cb_token_lists.specs.Partials.{partial_at}
use Rattle.cb_join_node.proofs.node.join_come.Given as goal

abbrev pub invariant-loop-number : goal.invariant-loop-number
invariant-loop-number g l =
    ((before : BetaMemoryValue) → ArePartialsFiled l.asked.fields.items l.initial.partials l.initial.strays (partial_at l.lists.sources.now l.lists.lists.now l.from) (Stays before)
    → ArePartialsFiled l.asked.fields.items l.partials l.strays (partial_at l.lists.sources.now l.lists.lists.now l.from) (λ number. Stays before number ⊎ In number (take l.number-index l.come)))
    × (Chain (λ (i : ℕ) (j : ℕ). i ≢ j) l.come → FindsFacts l.alpha l.join l.asked.fields.items → AreJoinFields l.asked.fields.items l.asked.address l.asked.pattern
    → ((n : ℕ) → In n l.come → KnowsValues l.asked (partial_at l.lists.sources.now l.lists.lists.now l.from n)) → AreSelected l.asked.pattern l.alpha.candidates
    → Comes l.initial.own l.own (Joins l.asked.address l.asked.pattern (tests_of l.asked) (partial_at l.lists.sources.now l.lists.lists.now l.from) (λ number. In number (take l.number-index l.come)) (live l.alpha)))
    × ((most : ℕ) → FindsFacts l.alpha l.join l.asked.fields.items → AreAtMost (IsUnder (live l.alpha)) most → l.meter ≤ l.initial.meter + l.number-index * most)
