use Rattle.std.proofs.Common.{◌≢◌, ◌↔◌, ℕ, List, take}
use Rattle.cb_alpha.specs.AlphaMemories.{live}
use Rattle.cb_fit.specs.declared.join_fields.JoinField.{JoinField}
use Rattle.cb_lookup_node.specs.Internal.{AreReplaced, HasItsFacts, IsPlaced}
use Rattle.cb_lookup_node.specs.LookupNodes.{SeesSome}
use Rattle.cb_matches.specs.Chains.{Chain, In}
use Rattle.cb_token_lists.specs.Partials.{partial_at}
use Rattle.cb_lookup_node.proofs.witnesses.Witnesses.place_alike.Given as goal

abbrev pub invariant-loop-number : goal.invariant-loop-number
invariant-loop-number l =
    (js : List JoinField) → ((n : ℕ) → In n l.numbers → HasItsFacts js l.alpha l.values l.facts (partial_at l.lists.sources.now l.lists.lists.now l.from n))
    → AreReplaced l.initial.self l.self (take l.number-index l.numbers) (IsPlaced l.compared js (live l.alpha) (partial_at l.lists.sources.now l.lists.lists.now l.from))
    × ((n : ℕ) → In n l.lost.items ↔ (In n (take l.number-index l.numbers) × (SeesSome l.compared js (live l.alpha) (partial_at l.lists.sources.now l.lists.lists.now l.from n) → ⊥)))
    × (Chain (λ (i : ℕ) (j : ℕ). i ≢ j) l.numbers → Chain (λ (i : ℕ) (j : ℕ). i ≢ j) l.lost.items)
