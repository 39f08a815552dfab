-- A whole change of a join node, from its steps.
use Rattle.std.proofs.Common.{◌⊎◌, ℕ, List, Result, Ok, Err, OnOk, inl, inr}
use Rattle.cb_alpha.specs.AlphaMemories.{AlphaMemoryValue, live}
use Rattle.cb_alpha.specs.Buckets.{Filing}
use Rattle.cb_alpha.specs.Turning.{came_in}
use Rattle.cb_beta.specs.BetaMemories.{BetaMemoryValue, HasFact, Loses}
use Rattle.cb_facts.specs.FactLists.{IndexedFacts}
use Rattle.cb_groups.specs.Groups.{Membership}
use Rattle.cb_join_node.proofs.Refiled.{filed_alike}
use Rattle.cb_join_node.proofs.Turning.{come_apart, kept_there, there_kept, they_are, they_turn}
use Rattle.cb_join_node.specs.Filings.{ArePartialsFiled}
use Rattle.cb_join_node.specs.Nodes.{AreJoined, IsAfter, IsBefore, Stays, tests_of}
use Rattle.cb_join_node.specs.declared.node.JoinNode.{JoinNode}
use Rattle.cb_matches.specs.Chains.{In}
use Rattle.cb_matches.specs.Matches.{Partial}
use Rattle.cb_matches.specs.Order.{WaysRise}
use Rattle.cb_nodes.specs.Patterns.{Unselected}
use Rattle.cb_token_lists.proofs.Arrivals.{come_then}
use Rattle.cb_token_lists.proofs.Keeping.{come_keeps, keeps_then, lost_keeps}
use Rattle.cb_token_lists.specs.Growth.{Comes}
use Rattle.cb_token_lists.specs.Keeping.{KeepsTokens}
use Rattle.cb_token_lists.specs.Turns.{IsThere}

-- what holds where a call succeeds, from two such
pub on_ok_both : {A E P Q R : Type 0} (r : Result A E) → (P → Q → R) → OnOk r P → OnOk r Q → OnOk r R
on_ok_both (Ok a) f h k = f h k
on_ok_both (Err e) f h k = h

-- the tokens behind the node
module _ {T : Type 0} (node : JoinNode T) (at : ℕ → Partial) (before : BetaMemoryValue) (alpha : AlphaMemoryValue) (own₀ own₁ own₂ own : BetaMemoryValue)
    (fs fs' : IndexedFacts) (old new : List Partial) (b : IsBefore node at before alpha own₀ fs fs' old new) (lost : Loses own₀ own₁ (λ t. In t.parent before.gone ⊎ HasFact alpha.gone t))
    (first : Comes own₁ own₂ (AreJoined node.asked at (Stays before) (came_in alpha))) (second : Comes own₂ own (AreJoined node.asked at (λ n. In n before.come) (live alpha))) where
  come : Comes own₁ own (λ t. AreJoined node.asked at (Stays before) (came_in alpha) t ⊎ AreJoined node.asked at (λ n. In n before.come) (live alpha) t)
  come =
      come_then own₁ own₂ own (AreJoined node.asked at (Stays before) (came_in alpha)) (AreJoined node.asked at (λ n. In n before.come) (live alpha)) first second
      (come_apart node.asked.address node.asked.pattern (tests_of node.asked) at before alpha b.facts.apart b.turns.came own₀ own₁ own b.none_gone b.none_come b.ready.tokens lost)

  pub kept : KeepsTokens own₀ own
  kept =
      keeps_then own₀ own₁ own (lost_keeps own₀ own₁ (λ t. In t.parent before.gone ⊎ HasFact alpha.gone t) lost)
      (come_keeps own₁ own (λ t. AreJoined node.asked at (Stays before) (came_in alpha) t ⊎ AreJoined node.asked at (λ n. In n before.come) (live alpha) t) come)

  -- and the node
  module _ (rise : WaysRise) (unselected : Unselected) (partials : Filing) (strays : Membership)
      (filed : ArePartialsFiled node.asked.fields.items partials strays at (λ n. Stays before n ⊎ In n before.come)) where
    pub changed : IsAfter (record node { partials = partials; strays = strays }) at before alpha own fs fs' old new
    changed =
        let x = node.asked.address in
        let p = node.asked.pattern in
        let ts = tests_of node.asked in
        record {
          ready = record {
            fields = b.ready.fields;
            partials_filed = filed_alike node.asked.fields.items partials strays at (λ n. Stays before n ⊎ In n before.come) (IsThere before)
                (λ n h. elim h as (λ _. IsThere before n) [
                  | inl k ↦ kept_there x p ts at before alpha b.facts.apart b.turns.came own₀ own₁ own b.none_gone b.none_come b.ready.tokens lost n k
                  | inr k ↦ b.turns.came n k
                ])
                (there_kept x p ts at before alpha b.facts.apart b.turns.came own₀ own₁ own b.none_gone b.none_come b.ready.tokens lost) filed;
            tokens = they_are x p ts at before alpha b.facts.apart b.turns.came own₀ own₁ own b.none_gone b.none_come b.ready.tokens lost come;
          };
          turns = they_turn x p ts at before alpha b.facts.apart b.turns.came own₀ own₁ own b.none_gone b.none_come b.ready.tokens lost come rise unselected fs fs' old new b.turns b.facts;
        }
