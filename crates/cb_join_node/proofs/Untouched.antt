-- A node before which nothing is, and one before which nothing went or came and whose alpha memory no fact entered or left, are as they were.
use Rattle.std.proofs.Common.{◌≡◌, ◌∙◌, ◌⊎◌, ℕ, List, [], None, Some, ap, inl, inr, refl, sym, subst, if◌then◌else◌}
use Rattle.std.proofs.lemmas.List.{append-nil}
use Rattle.cb_alpha.specs.AlphaMemories.{AlphaMemoryValue, candidate_in, live}
use Rattle.cb_alpha.specs.Turning.{came_in, is_number}
use Rattle.cb_beta.specs.BetaMemories.{BetaMemoryValue, HasFact, Loses, live as live_token}
use Rattle.cb_beta.specs.Tokens.{TokenValue, token_at}
use Rattle.cb_facts.specs.FactLists.{IndexedFacts}
use Rattle.cb_facts.specs.Facts.{FactValue}
use Rattle.cb_join_node.proofs.Changing.{changed, kept}
use Rattle.cb_join_node.proofs.Refiled.{filed_alike}
use Rattle.cb_join_node.specs.Filings.{ArePartialsFiled}
use Rattle.cb_join_node.specs.Nodes.{AreJoined, IsAfter, IsBefore, Stays}
use Rattle.cb_join_node.specs.declared.node.JoinNode.{JoinNode}
use Rattle.cb_matches.specs.Chains.{In}
use Rattle.cb_matches.specs.Matches.{Partial}
use Rattle.cb_matches.specs.Order.{WaysRise}
use Rattle.cb_nodes.specs.Patterns.{Unselected}
use Rattle.cb_token_lists.proofs.Arrivals.{none_come as nothing_comes}
use Rattle.cb_token_lists.specs.Growth.{Comes}
use Rattle.cb_token_lists.specs.Keeping.{KeepsTokens}
use Rattle.cb_token_lists.specs.Turns.{WasThere}

no_some : (f : ℕ × FactValue) → None ≡ Some f → ⊥
no_some f d = cc

-- where nothing that was there before it went, nothing came, none of its tokens is to go, and no fact comes to what stays
module _ {T : Type 0} (node : JoinNode T) (at : ℕ → Partial) (m : BetaMemoryValue) (alpha : AlphaMemoryValue) (own : BetaMemoryValue)
    (fs fs' : IndexedFacts) (old new : List Partial) (b : IsBefore node at m alpha own fs fs' old new)
    (stays : (n : ℕ) → WasThere m n → In n m.gone → ⊥) (none_come : m.come ≡ [])
    (none_goes : (i : ℕ) (t : TokenValue) → live_token own i ≡ Some t → In t.parent m.gone ⊎ HasFact alpha.gone t → ⊥)
    (no_fact : (t : TokenValue) → AreJoined node.asked at (Stays m) (came_in alpha) t → ⊥) where
  lost : Loses own own (λ t. In t.parent m.gone ⊎ HasFact alpha.gone t)
  lost = record {
    more = [];
    gone = sym (append-nil own.gone);
    are = λ i h. absurd h;
    all = λ i t is such. absurd (none_goes i t is such);
    once = tt;
    tokens = refl;
    come = refl;
  }

  no_partial : (t : TokenValue) → AreJoined node.asked at (λ n. In n m.come) (live alpha) t → ⊥
  no_partial t (number, there, pair) = subst (In number) none_come there

  first : Comes own own (AreJoined node.asked at (Stays m) (came_in alpha))
  first = nothing_comes own (AreJoined node.asked at (Stays m) (came_in alpha)) no_fact

  second : Comes own own (AreJoined node.asked at (λ n. In n m.come) (live alpha))
  second = nothing_comes own (AreJoined node.asked at (λ n. In n m.come) (live alpha)) no_partial

  filed : ArePartialsFiled node.asked.fields.items node.partials node.strays at (λ n. Stays m n ⊎ In n m.come)
  filed =
      filed_alike node.asked.fields.items node.partials node.strays at (WasThere m) (λ n. Stays m n ⊎ In n m.come)
      (λ n h. inl (h, stays n h))
      (λ n h. elim h as (λ _. WasThere m n) [
        | inl k ↦ k.0
        | inr k ↦ absurd (subst (In n) none_come k)
      ])
      b.ready.partials_filed

  as_it_was : WaysRise → Unselected → IsAfter node at m alpha own fs fs' old new
  as_it_was rise unselected = changed node at m alpha own own own own fs fs' old new b lost first second rise unselected node.partials node.strays filed

  as_it_was_kept : KeepsTokens own own
  as_it_was_kept = kept node at m alpha own own own own fs fs' old new b lost first second

module _ {T : Type 0} (node : JoinNode T) (at : ℕ → Partial) (m : BetaMemoryValue) (alpha : AlphaMemoryValue) (own : BetaMemoryValue)
    (fs fs' : IndexedFacts) (old new : List Partial) (b : IsBefore node at m alpha own fs fs' old new) (none_come : m.come ≡ []) where
  -- nothing went or came
  module _ (none_gone : m.gone ≡ []) (none_left : alpha.gone ≡ None) (none_entered : alpha.come ≡ None) where
    stay : (n : ℕ) → WasThere m n → In n m.gone → ⊥
    stay n there k = subst (In n) none_gone k

    none_goes : (i : ℕ) (t : TokenValue) → live_token own i ≡ Some t → In t.parent m.gone ⊎ HasFact alpha.gone t → ⊥
    none_goes i t is such = elim such as (λ _. ⊥) [
      | inl h ↦ subst (In t.parent) none_gone h
      | inr h ↦ subst (λ o. HasFact o t) none_left h
    ]

    no_fact : (t : TokenValue) → AreJoined node.asked at (Stays m) (came_in alpha) t → ⊥
    no_fact t (number, there, (candidate, (f, is, pair))) =
        no_some f (sym (ap (λ o. if is_number o candidate then candidate_in alpha.candidates candidate else None) none_entered) ∙ is)

    pub untouched : WaysRise → Unselected → IsAfter node at m alpha own fs fs' old new
    untouched = as_it_was node at m alpha own fs fs' old new b stay none_come none_goes no_fact

    pub untouched_kept : KeepsTokens own own
    untouched_kept = as_it_was_kept node at m alpha own fs fs' old new b stay none_come none_goes no_fact

  -- nothing is there before it, and nothing was
  module _ (none_there : (n : ℕ) → token_at m.tokens n ≡ None) where
    none_was : (n : ℕ) → WasThere m n → ⊥
    none_was n ((t, is), late) = let no : None ≡ Some t = sym (none_there n) ∙ is in cc

    pub nothing_before : WaysRise → Unselected → IsAfter node at m alpha own fs fs' old new
    nothing_before =
        as_it_was node at m alpha own fs fs' old new b (λ n there k. none_was n there) none_come
        (λ i t is such. let joined = b.ready.tokens.are i t is in none_was joined.0 joined.1) (λ t joined. none_was joined.0 joined.1.0)

    pub nothing_before_kept : KeepsTokens own own
    nothing_before_kept =
        as_it_was_kept node at m alpha own fs fs' old new b (λ n there k. none_was n there) none_come
        (λ i t is such. let joined = b.ready.tokens.are i t is in none_was joined.0 joined.1) (λ t joined. none_was joined.0 joined.1.0)
