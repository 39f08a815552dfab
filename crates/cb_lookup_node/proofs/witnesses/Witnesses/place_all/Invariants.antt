use Rattle.std.proofs.Common.{◌≢◌, ◌↔◌, ℕ, take}
use Rattle.cb_alpha.specs.AlphaMemories.{live}
use Rattle.cb_alpha.specs.Turning.{HasJoin}
use Rattle.cb_lookup_node.specs.Internal.{AreReplaced, IsPlaced}
use Rattle.cb_lookup_node.specs.LookupNodes.{Passes, SeesSome}
use Rattle.cb_matches.specs.Chains.{Chain, In}
use Rattle.cb_token_lists.specs.Partials.{partial_at}
use Rattle.cb_lookup_node.proofs.witnesses.Witnesses.place_all.Given as goal

abbrev pub invariant-loop-number : goal.invariant-loop-number
invariant-loop-number l =
    (HasJoin l.alpha l.join l.fields → AreReplaced l.initial.self l.self (take l.number-index l.numbers) (IsPlaced l.compared l.fields (live l.alpha) (partial_at l.lists.sources.now l.lists.lists.now l.from)))
    × (HasJoin l.alpha l.join l.fields → (n : ℕ) → In n l.all.items
    ↔ (In n (take l.number-index l.numbers) × Passes l.wanted (SeesSome l.compared l.fields (live l.alpha) (partial_at l.lists.sources.now l.lists.lists.now l.from n))))
    × (HasJoin l.alpha l.join l.fields → Chain (λ (i : ℕ) (j : ℕ). i ≢ j) l.numbers → Chain (λ (i : ℕ) (j : ℕ). i ≢ j) l.all.items)
