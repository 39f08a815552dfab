-- A change of a join node: the tokens that are there afterwards, and the list that they stand for.
use Rattle.std.proofs.Common.{◌≡◌, ◌∙◌, ◌⊎◌, ℕ, true, false, List, [], Option, Some, None, ap, inl, inr, refl, subst, sym}
use Rattle.std.specs.Option.{option_map_or}
use Rattle.cb_alpha.proofs.ReadFacts.{came_read, is_its_number, live_read, not_both, number_is, read_came, read_live, read_were, same_some, were_read}
use Rattle.cb_alpha.specs.AlphaMemories.{AlphaMemoryValue, Candidates, candidate_in, live}
use Rattle.cb_alpha.specs.Turning.{AlphaTurns, AreCandidates, came_in, is_number, were_in}
use Rattle.cb_beta.proofs.Live.{live_token, there_is}
use Rattle.cb_beta.proofs.Members.{by_in}
use Rattle.cb_beta.specs.BetaMemories.{BetaMemoryValue, HasFact, Loses}
use Rattle.cb_beta.specs.Tokens.{TokenValue, Tokens, candidate_of, partial_after, token_at, with_taken}
use Rattle.cb_constraints.specs.PatternValues.{PatternValue}
use Rattle.cb_exprs.specs.Terms.{Term}
use Rattle.cb_facts.specs.FactLists.{IndexedFacts}
use Rattle.cb_facts.specs.Facts.{FactValue}
use Rattle.cb_fit.specs.Ways.{WayValue, ways}
use Rattle.cb_join_node.proofs.Tokens.{one_candidate, one_parent}
use Rattle.cb_join_node.specs.Joins.{Joins, token_of}
use Rattle.cb_join_node.specs.Nodes.{Stays}
use Rattle.cb_matches.proofs.Growth.{in_next, is_grown, ways_differ}
use Rattle.cb_matches.proofs.Lists.{by_test, filter_in, in_filter}
use Rattle.cb_matches.proofs.PartOrder.{part, same_last}
use Rattle.cb_matches.specs.Chains.{In}
use Rattle.cb_matches.specs.Matches.{Partial, grown, next, no_parts, with_address}
use Rattle.cb_matches.specs.Order.{WaysRise}
use Rattle.cb_nodes.proofs.Shapes.{selected_by_way}
use Rattle.cb_nodes.specs.Flat.{all_hold, next_where}
use Rattle.cb_nodes.specs.Patterns.{Unselected}
use Rattle.cb_token_lists.proofs.After as after
use Rattle.cb_token_lists.specs.Growth.{AreTokens, Comes}
use Rattle.cb_token_lists.specs.Turns.{IsReadable, IsThere, StandFor, Turns, WasThere}

-- what a token that can be read stands for
pub stands_for : (x : Option (List ℕ)) (ts : Tokens) (at : ℕ → Partial) (i n c ix : ℕ) (w : WayValue) → token_at ts i ≡ Some (token_of n c ix w)
    → partial_after x ts at i ≡ grown x ix (at n) w
stands_for x ts at i n c ix w e = ap (λ o. option_map_or (λ (t : TokenValue). with_taken x t.taken (at t.parent)) o no_parts) e

-- tokens that are just those by which the partial matches of a list go on with facts stand for what the pattern makes of them
module _ (rise : WaysRise) (unselected : Unselected) (x : Option (List ℕ)) (p : PatternValue) (ts : List Term) (at : ℕ → Partial) (own : Tokens) where
  abbrev pub own_at : ℕ → Partial
  own_at = partial_after x own at

  module _ (Th There : ℕ → Type 0) (facts : ℕ → Option (ℕ × FactValue)) (fs : IndexedFacts) (ms : List Partial) (stand : StandFor at Th ms) (cands : AreCandidates p fs facts)
      (are : (i : ℕ) → There i → (t : TokenValue) × (token_at own i ≡ Some t) × Joins x p ts at Th facts t)
      (all : (t : TokenValue) → Joins x p ts at Th facts t → (i : ℕ) × There i × (token_at own i ≡ Some t)) where
    pub they_stand : StandFor own_at There (next_where x p ts fs ms)
    they_stand = record {
      to = λ i h.
          let a = are i h in
          let j = a.2 in
          let n = j.0 in
          let c = j.2.0 in
          let f = j.2.1.0 in
          let w = j.2.1.2.0 in
          let is : own_at i ≡ grown x f.0 (at n) w = stands_for x own at i n c f.0 w (a.1 ∙ ap Some j.2.1.2.2.1) in
          subst (λ z. In z (next_where x p ts fs ms)) (sym is)
          (filter_in (all_hold ts) (grown x f.0 (at n) w) (next x p fs ms) (in_next x p fs ms (at n) f w (stand.to n j.1) (cands.are c f j.2.1.1).0 j.2.1.2.1) j.2.1.2.2.0);
      from = λ z h.
          let k = in_filter (all_hold ts) z (next x p fs ms) h in
          let g = is_grown x p fs ms z k.0 in
          let n = stand.from g.parent g.parent_in in
          let way_in : In g.way (ways p g.fact.1 (with_address x g.fact.0 (at n.0).env)) = subst (λ m. In g.way (ways p g.fact.1 (with_address x g.fact.0 m.env))) n.2 g.way_in in
          let c = cands.all g.fact g.fact_in (selected_by_way unselected p g.fact (with_address x g.fact.0 (at n.0).env) g.way way_in) in
          let is : z ≡ grown x g.fact.0 (at n.0) g.way = g.is ∙ ap (λ m. grown x g.fact.0 m g.way) n.2 in
          let holds : all_hold ts (grown x g.fact.0 (at n.0) g.way) ≡ true = ap (all_hold ts) (sym is) ∙ k.1 in
          let t = token_of n.0 c.0 g.fact.0 g.way in
          let i = all t (n.0, n.1, (c.0, (g.fact, c.1, (g.way, way_in, (holds, refl))))) in
          (i.0, i.1, is ∙ sym (stands_for x own at i.0 n.0 c.0 g.fact.0 g.way i.2));
    }

  -- tokens with the same parts are the same
  module _ (cs : Candidates) (one_index : (i j : ℕ) (f g : ℕ × FactValue) → candidate_in cs i ≡ Some f → candidate_in cs j ≡ Some g → f.0 ≡ g.0 → i ≡ j)
      (Read : ℕ → Type 0) (one : (i j : ℕ) → Read i → Read j → (at i).parts ≡ (at j).parts → i ≡ j) where
    pub one_by_parts : (i j : ℕ) (t u : TokenValue) → token_at own i ≡ Some t → token_at own j ≡ Some u → Joins x p ts at Read (candidate_in cs) t → Joins x p ts at Read (candidate_in cs) u
        → (own_at i).parts ≡ (own_at j).parts → t ≡ u
    one_by_parts i j t u e d h k same =
        let f = h.2.1.0 in
        let g = k.2.1.0 in
        let v = h.2.1.2.0 in
        let w = k.2.1.2.0 in
        let first : own_at i ≡ grown x f.0 (at h.0) v = stands_for x own at i h.0 h.2.0 f.0 v (e ∙ ap Some h.2.1.2.2.1) in
        let second : own_at j ≡ grown x g.0 (at k.0) w = stands_for x own at j k.0 k.2.0 g.0 w (d ∙ ap Some k.2.1.2.2.1) in
        let both = same_last (at h.0).parts (at k.0).parts (part f.0 v.cuts) (part g.0 w.cuts) (sym (ap (λ it. it.parts) first) ∙ (same ∙ ap (λ it. it.parts) second)) in
        let parents : h.0 ≡ k.0 = one h.0 k.0 h.1 k.1 both.0 in
        let index : f.0 ≡ g.0 = ap (λ it. it.index) both.1 in
        let candidates : h.2.0 ≡ k.2.0 = one_index h.2.0 k.2.0 f g h.2.1.1 k.2.1.1 index in
        let facts : f ≡ g = same_some (candidate_in cs h.2.0) h.2.1.1 (ap (candidate_in cs) candidates ∙ k.2.1.1) in
        let w_in : In w (ways p f.1 (with_address x f.0 (at h.0).env)) =
        subst (λ n. In w (ways p f.1 (with_address x f.0 (at n).env))) (sym parents) (subst (λ it. In w (ways p it.1 (with_address x it.0 (at k.0).env))) (sym facts) k.2.1.2.1) in
        let way : v ≡ w = ways_differ rise p f.1 (with_address x f.0 (at h.0).env) v w h.2.1.2.1 w_in (ap (λ it. it.cuts) both.1) in
        h.2.1.2.2.1
        ∙ (ap (λ n. token_of n h.2.0 f.0 v) parents ∙ (ap (λ c. token_of k.0 c f.0 v) candidates ∙ (ap (λ it. token_of k.0 k.2.0 it.0 v) facts ∙ ap (token_of k.0 k.2.0 g.0) way)))
        ∙ sym k.2.1.2.2.1

-- what is there after a change
module _ (x : Option (List ℕ)) (p : PatternValue) (ts : List Term) (at : ℕ → Partial) (before : BetaMemoryValue) (alpha : AlphaMemoryValue)
    (apart : (c : ℕ) → alpha.come ≡ Some c → alpha.gone ≡ Some c → ⊥) (came_there : (i : ℕ) → In i before.come → IsThere before i)
    (own₀ own₁ own : BetaMemoryValue) (none_gone : own₀.gone ≡ []) (none_come : own₀.come ≡ [])
    (was : AreTokens own₀ (Joins x p ts at (WasThere before) (were_in alpha))) (lost : Loses own₀ own₁ (λ t. In t.parent before.gone ⊎ HasFact alpha.gone t)) where
  -- those before the pattern that were there and still are
  abbrev pub Kept : ℕ → Type 0
  Kept = Stays before

  abbrev pub First : TokenValue → Type 0
  First = Joins x p ts at Kept (came_in alpha)

  abbrev pub Second : TokenValue → Type 0
  Second = Joins x p ts at (λ n. In n before.come) (live alpha)

  abbrev pub Final : TokenValue → Type 0
  Final = Joins x p ts at (IsThere before) (live alpha)

  pub kept_there : (n : ℕ) → Kept n → IsThere before n
  kept_there n h = (h.0.0.0, there_is before.tokens before.gone n h.1 ∙ h.0.0.1)

  pub there_kept : (n : ℕ) → IsThere before n → Kept n ⊎ In n before.come
  there_kept n h = elim (by_in n before.come) as (λ _. Kept n ⊎ In n before.come) [
    | inl k ↦ inr k
    | inr k ↦ let l = live_token before.tokens before.gone n h.0 h.1 in inl (((h.0, l.1), k), l.0)
  ]

  pub come_apart : (t : TokenValue) → First t → Second t → ⊥
  come_apart t h k =
      let same : h.0 ≡ k.0 = one_parent h.0 k.0 h.2.0 k.2.0 h.2.1.0.0 k.2.1.0.0 h.2.1.2.0 k.2.1.2.0 (sym h.2.1.2.2.1 ∙ k.2.1.2.2.1) in
      h.1.0.1 (subst (λ n. In n before.come) (sym same) k.1)

  abbrev pub Was : TokenValue → Type 0
  Was = Joins x p ts at (WasThere before) (were_in alpha)

  abbrev pub Lost : TokenValue → Type 0
  Lost t = In t.parent before.gone ⊎ HasFact alpha.gone t

  abbrev pub Came : TokenValue → Type 0
  Came t = First t ⊎ Second t

  new_final : (t : TokenValue) → Came t → Final t
  new_final t (inl h) =
      let r = came_read alpha h.2.0 h.2.1.0 h.2.1.1 in
      (h.0, kept_there h.0 h.1, (h.2.0, (h.2.1.0, here h.2.0 h.2.1.0 r.0 r.1, h.2.1.2)))
    where
      here : (c : ℕ) (f : ℕ × FactValue) → candidate_in alpha.candidates c ≡ Some f → is_number alpha.come c ≡ true → live alpha c ≡ Some f
      here c f e t = by_test (is_number alpha.gone c)
          (λ g. absurd (apart c (number_is alpha.come c t) (number_is alpha.gone c g)))
          (λ g. read_live alpha c g ∙ e)
  new_final t (inr h) = (h.0, came_there h.0 h.1, h.2)

  stays_final : (t : TokenValue) → Was t → (Lost t → ⊥) → Final t
  stays_final t h stays =
      let e = h.2.1.2.2.1 in
      let n = h.0 in
      let c = h.2.0 in
      let not_gone : In n before.gone → ⊥ = λ k. stays (inl (subst (λ it. In it before.gone) (ap (λ (it : TokenValue). it.parent) (sym e)) k)) in
      let fact : live alpha c ≡ Some h.2.1.0 = by_test (is_number alpha.gone c)
      (λ g. absurd (stays (inr (subst (λ o. HasFact o t) (sym (number_is alpha.gone c g)) (ap candidate_of e)))))
      (λ g. read_live alpha c g ∙ (were_read alpha c h.2.1.0 h.2.1.1).0) in
      (n, kept_there n (h.1, not_gone), (c, (h.2.1.0, fact, h.2.1.2)))

  old_apart : (t : TokenValue) → Was t → Came t → ⊥
  old_apart t h (inl k) =
      let same : h.2.0 ≡ k.2.0 = one_candidate h.0 k.0 h.2.0 k.2.0 h.2.1.0.0 k.2.1.0.0 h.2.1.2.0 k.2.1.2.0 (sym h.2.1.2.2.1 ∙ k.2.1.2.2.1) in
      not_both (is_number alpha.come h.2.0) (ap (is_number alpha.come) same ∙ (came_read alpha k.2.0 k.2.1.0 k.2.1.1).1) (were_read alpha h.2.0 h.2.1.0 h.2.1.1).1
  old_apart t h (inr k) =
      let same : h.0 ≡ k.0 = one_parent h.0 k.0 h.2.0 k.2.0 h.2.1.0.0 k.2.1.0.0 h.2.1.2.0 k.2.1.2.0 (sym h.2.1.2.2.1 ∙ k.2.1.2.2.1) in
      h.1.1 (subst (λ n. In n before.come) (sym same) k.1)

  not_lost : (t : TokenValue) → (h : Final t) → Kept h.0 → is_number alpha.gone h.2.0 ≡ false → Lost t → ⊥
  not_lost t h k r (inl l) = k.1 (subst (λ it. In it before.gone) (ap (λ (it : TokenValue). it.parent) h.2.1.2.2.1) l)
  not_lost t h k r (inr l) = by_gone alpha.gone refl l
    where
      by_gone : (o : Option ℕ) → o ≡ alpha.gone → HasFact o t → ⊥
      by_gone None d l = l
      by_gone (Some g) d l =
          let same : Some h.2.0 ≡ Some g = sym (ap candidate_of h.2.1.2.2.1) ∙ l in
          not_both (is_number alpha.gone h.2.0) (is_its_number alpha.gone h.2.0 (sym d ∙ sym same)) r

  split_final : (t : TokenValue) → Final t → (Was t × (Lost t → ⊥)) ⊎ Came t
  split_final t h = elim (there_kept h.0 h.1) as (λ _. (Was t × (Lost t → ⊥)) ⊎ Came t) [
    | inr k ↦ inr (inr (h.0, k, h.2))
    | inl k ↦
        let r = live_read alpha h.2.0 h.2.1.0 h.2.1.1 in
        by_test (is_number alpha.come h.2.0)
        (λ a. inr (inl (h.0, k, (h.2.0, (h.2.1.0, read_came alpha h.2.0 a ∙ r.0, h.2.1.2)))))
        (λ a. inl ((h.0, k.0, (h.2.0, (h.2.1.0, read_were alpha h.2.0 a ∙ r.0, h.2.1.2))), not_lost t h k r.1))
  ]

  module _ (come : Comes own₁ own (λ t. First t ⊎ Second t)) where
    pub they_are : AreTokens own Final
    they_are = after.they_are own₀ own₁ own Was Lost Came Final none_gone none_come was lost come stays_final new_final split_final old_apart

    -- and what they stand for
    module _ (rise : WaysRise) (unselected : Unselected) (fs fs' : IndexedFacts) (old new : List Partial) (turns : Turns at before old new) (facts : AlphaTurns p alpha fs fs') where
      known : (t : TokenValue) → Was t ⊎ Final t → Joins x p ts at (IsReadable before) (candidate_in alpha.candidates) t
      known t (inl h) = (h.0, h.1.0, (h.2.0, (h.2.1.0, (were_read alpha h.2.0 h.2.1.0 h.2.1.1).0, h.2.1.2)))
      known t (inr h) = (
        h.0,
        (h.1.0, (live_token before.tokens before.gone h.0 h.1.0 h.1.1).1),
        (h.2.0, (h.2.1.0, (live_read alpha h.2.0 h.2.1.0 h.2.1.1).0, h.2.1.2)),
      )

      pub they_turn : Turns (partial_after x own.tokens at) own (next_where x p ts fs old) (next_where x p ts fs' new)
      they_turn =
          after.they_turn own₀ own₁ own Was Lost Came Final none_gone none_come was lost come stays_final new_final split_final old_apart (partial_after x own.tokens at)
          (next_where x p ts fs old) (next_where x p ts fs' new)
          (they_stand rise unselected x p ts at own.tokens (WasThere before) (WasThere own) (were_in alpha) fs old turns.was facts.was
          (after.was_old own₀ own₁ own Was Lost Came Final none_gone none_come was lost come stays_final new_final split_final old_apart)
          (after.old_was own₀ own₁ own Was Lost Came Final none_gone none_come was lost come stays_final new_final split_final old_apart))
          (they_stand rise unselected x p ts at own.tokens (IsThere before) (IsThere own) (live alpha) fs' new turns.is facts.is
          (after.is_new own₀ own₁ own Was Lost Came Final none_gone none_come was lost come stays_final new_final split_final old_apart)
          (after.new_is own₀ own₁ own Was Lost Came Final none_gone none_come was lost come stays_final new_final split_final old_apart))
          (λ i j t u e d h k parts.
          one_by_parts rise unselected x p ts at own.tokens alpha.candidates facts.one (IsReadable before) turns.one i j t u e d (known t h) (known u k) parts)
