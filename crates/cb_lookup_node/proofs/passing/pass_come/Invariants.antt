use Rattle.std.proofs.Common.{◌≡◌, ◌≢◌, ◌⊎◌, ℕ, take, true}
use Rattle.cb_alpha.specs.AlphaMemories.{live}
use Rattle.cb_alpha.specs.Turning.{HasJoin}
use Rattle.cb_beta.specs.BetaMemories.{BetaMemoryValue}
use Rattle.cb_lookup_node.specs.Internal.{Stays, is_ordered}
use Rattle.cb_lookup_node.specs.LookupNodes.{AreFiled, ArePassedOn, in_order}
use Rattle.cb_matches.specs.Chains.{Chain, In}
use Rattle.cb_token_lists.specs.Growth.{Comes}
use Rattle.cb_token_lists.specs.Keeping.{KeepsTokens}
use Rattle.cb_token_lists.specs.Partials.{partial_at}
use Rattle.cb_lookup_node.proofs.passing.pass_come.Given as goal

abbrev pub invariant-loop-number : goal.invariant-loop-number
invariant-loop-number l =
    ((before : BetaMemoryValue) → AreFiled l.comparison l.fields l.initial.partials (partial_at l.lists.sources.now l.lists.lists.now l.from) (Stays before)
    → AreFiled l.comparison l.fields l.partials (partial_at l.lists.sources.now l.lists.lists.now l.from) (λ number. Stays before number ⊎ In number (take l.number-index l.come)))
    × (Chain (λ (i : ℕ) (j : ℕ). i ≢ j) l.come → HasJoin l.alpha l.join l.fields → is_ordered l.comparison ≡ true
    → Comes l.initial.own l.own (ArePassedOn l.positive (in_order l.comparison) l.fields (live l.alpha) (partial_at l.lists.sources.now l.lists.lists.now l.from) (λ number. In number (take l.number-index l.come))))
    × KeepsTokens l.initial.own l.own
