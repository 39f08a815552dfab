-- What a change does behind a group of one pattern that is looked up.
use Rattle.std.proofs.Common.{◌≡◌, ◌∙◌, ◌⊎◌, ◌↔◌, ℕ, Bool, true, false, List, [], Some, None, ap, filter, inl, inr, refl, subst, sym}
use Rattle.std.specs.Option.{option_map_or}
use Rattle.cb_beta.proofs.Live.{live_token, there_is}
use Rattle.cb_beta.proofs.Losses.{then}
use Rattle.cb_beta.proofs.Members.{by_in}
use Rattle.cb_beta.specs.BetaMemories.{BetaMemoryValue, Loses}
use Rattle.cb_beta.specs.Tokens.{TokenValue, Tokens, partial_after, token_at, with_taken}
use Rattle.cb_lookup_node.specs.Internal.{AreOf, Arrives, Leaves, Stays}
use Rattle.cb_lookup_node.specs.LookupNodes.{Passes, passed_on}
use Rattle.cb_matches.proofs.Lists.{filter_in, in_filter}
use Rattle.cb_matches.specs.Chains.{In}
use Rattle.cb_matches.specs.Matches.{Partial, no_parts}
use Rattle.cb_token_lists.proofs.After as after
use Rattle.cb_token_lists.proofs.Arrivals.{come_then}
use Rattle.cb_token_lists.proofs.Keeping.{there_read}
use Rattle.cb_token_lists.specs.Growth.{AreTokens, Comes}
use Rattle.cb_token_lists.specs.Turns.{IsReadable, IsThere, StandFor, Turns, WasThere}

-- what passes, by what there was and what there is
still_passes : (b : Bool) (H K : Type 0) → K ⊎ (K → ⊥) → Passes b H → (Leaves b H K → ⊥) → Passes b K
still_passes true H K (inl k) h stays = k
still_passes true H K (inr n) h stays = absurd (stays (h, n))
still_passes false H K either h stays = λ k. stays (h, k)

arrives_passes : (b : Bool) (H K : Type 0) → Arrives b H K → Passes b K
arrives_passes true H K h = h.1
arrives_passes false H K h = h.1

passes_still : (b : Bool) (H K : Type 0) → H ⊎ (H → ⊥) → Passes b K → (Passes b H × (Leaves b H K → ⊥)) ⊎ Arrives b H K
passes_still true H K (inl h) k = inl (h, λ l. l.1 k)
passes_still true H K (inr n) k = inr (n, k)
passes_still false H K (inl h) k = inr (h, k)
passes_still false H K (inr n) k = inl (n, λ l. k l.1)

not_again : (b : Bool) (H K : Type 0) → Passes b H → Arrives b H K → ⊥
not_again true H K h a = a.0 h
not_again false H K h a = h a.0

-- the tokens of those that pass
abbrev pub Passed : Bool → (ℕ → Type 0) → (ℕ → Type 0) → TokenValue → Type 0
Passed positive One There t = (number : ℕ) × There number × Passes positive (One number) × (t ≡ passed_on number)

parent_is : (t : TokenValue) (n : ℕ) → t ≡ passed_on n → n ≡ t.parent
parent_is t n e = ap (λ (it : TokenValue). it.parent) (sym e)

-- what a token behind the group stands for
stands_for : (at : ℕ → Partial) (ts : Tokens) (i n : ℕ) → token_at ts i ≡ Some (passed_on n) → partial_after None ts at i ≡ at n
stands_for at ts i n e = ap (λ o. option_map_or (λ (t : TokenValue). with_taken None t.taken (at t.parent)) o no_parts) e

they_stand : (positive : Bool) (One : ℕ → Type 0) (q : Partial → Bool) (at : ℕ → Partial) (Th There : ℕ → Type 0) → ((n : ℕ) → Th n → (q (at n) ≡ true) ↔ Passes positive (One n))
    → (ts : Tokens) (ms : List Partial) → StandFor at Th ms
    → ((i : ℕ) → There i → (t : TokenValue) × (token_at ts i ≡ Some t) × Passed positive One Th t)
    → ((t : TokenValue) → Passed positive One Th t → (i : ℕ) × There i × (token_at ts i ≡ Some t))
    → StandFor (partial_after None ts at) There (filter q ms)
they_stand positive One q at Th There so ts ms stand are all = record {
  to = λ i h.
      let a = are i h in
      let n = a.2.0 in
      let is : partial_after None ts at i ≡ at n = stands_for at ts i n (a.1 ∙ ap Some a.2.3) in
      subst (λ z. In z (filter q ms)) (sym is) (filter_in q (at n) ms (stand.to n a.2.1) ((so n a.2.1).1 a.2.2));
  from = λ z h.
      let k = in_filter q z ms h in
      let n = stand.from z k.0 in
      let i = all (passed_on n.0) (n.0, n.1, (so n.0 n.1).0 (ap q (sym n.2) ∙ k.1), refl) in
      (i.0, i.1, n.2 ∙ sym (stands_for at ts i.0 n.0 i.2));
}

module _ (positive : Bool) (Had Has : ℕ → Type 0) (at : ℕ → Partial) (before : BetaMemoryValue) (old new : List Partial) (turns : Turns at before old new) (q q' : Partial → Bool)
    (held_so : (n : ℕ) → WasThere before n → (q (at n) ≡ true) ↔ Passes positive (Had n)) (holds_so : (n : ℕ) → IsThere before n → (q' (at n) ≡ true) ↔ Passes positive (Has n))
    (had_or : (n : ℕ) → Stays before n → Had n ⊎ (Had n → ⊥)) (has_or : (n : ℕ) → Stays before n → Has n ⊎ (Has n → ⊥)) (leave arrive : List ℕ)
    (leaving : (n : ℕ) → In n leave ↔ (Stays before n × Leaves positive (Had n) (Has n))) (arriving : (n : ℕ) → In n arrive ↔ (Stays before n × Arrives positive (Had n) (Has n)))
    (own₀ own₁ own₂ own₃ own : BetaMemoryValue) (behind : AreTokens own₀ (Passed positive Had (WasThere before))) (none_gone : own₀.gone ≡ []) (none_come : own₀.come ≡ [])
    (lost₁ : Loses own₀ own₁ (λ t. In t.parent before.gone)) (lost₂ : Loses own₁ own₂ (λ t. In t.parent leave)) (come₁ : Comes own₂ own₃ (AreOf (λ n. In n arrive)))
    (come₂ : Comes own₃ own (Passed positive Has (λ n. In n before.come))) where
  abbrev Was : TokenValue → Type 0
  Was = Passed positive Had (WasThere before)

  abbrev Lost : TokenValue → Type 0
  Lost t = In t.parent before.gone ⊎ In t.parent leave

  abbrev First : TokenValue → Type 0
  First = AreOf (λ n. In n arrive)

  abbrev Second : TokenValue → Type 0
  Second = Passed positive Has (λ n. In n before.come)

  abbrev Came : TokenValue → Type 0
  Came t = First t ⊎ Second t

  abbrev Final : TokenValue → Type 0
  Final = Passed positive Has (IsThere before)

  lost : Loses own₀ own₂ Lost
  lost = then own₀ own₁ (λ t. In t.parent before.gone) lost₁ own₂ (λ t. In t.parent leave) lost₂

  come : Comes own₂ own Came
  come =
      come_then own₂ own₃ own First Second come₁ come₂
      (λ t h k.
      let same : h.0 ≡ k.0 = parent_is t h.0 h.2 ∙ sym (parent_is t k.0 k.3) in
      ((arriving h.0).0 h.1).0.0.1 (subst (λ n. In n before.come) (sym same) k.1))

  stays_there : (n : ℕ) → Stays before n → IsThere before n
  stays_there n h = (h.0.0.0, there_is before.tokens before.gone n h.1 ∙ h.0.0.1)

  stay : (t : TokenValue) → Was t → (Lost t → ⊥) → Final t
  stay t h apart =
      let p = parent_is t h.0 h.3 in
      let stays : Stays before h.0 = (h.1, λ k. apart (inl (subst (λ it. In it before.gone) p k))) in (
        h.0,
        stays_there h.0 stays,
        still_passes positive (Had h.0) (Has h.0) (has_or h.0 stays) h.2 (λ l. apart (inr (subst (λ it. In it leave) p ((leaving h.0).1 (stays, l))))),
        h.3,
      )

  come_final : (t : TokenValue) → Came t → Final t
  come_final t (inl h) = let a = (arriving h.0).0 h.1 in (h.0, stays_there h.0 a.0, arrives_passes positive (Had h.0) (Has h.0) a.1, h.2)
  come_final t (inr h) = (h.0, turns.came h.0 h.1, h.2, h.3)

  split : (t : TokenValue) → Final t → (Was t × (Lost t → ⊥)) ⊎ Came t
  split t h = elim (by_in h.0 before.come) as (λ _. (Was t × (Lost t → ⊥)) ⊎ Came t) [
    | inl k ↦ inr (inr (h.0, k, h.2, h.3))
    | inr m ↦
        let l = live_token before.tokens before.gone h.0 h.1.0 h.1.1 in
        let stays : Stays before h.0 = (((h.1.0, l.1), m), l.0) in
        let p = sym (parent_is t h.0 h.3) in
        elim (passes_still positive (Had h.0) (Has h.0) (had_or h.0 stays) h.2) as (λ _. (Was t × (Lost t → ⊥)) ⊎ Came t) [
          | inl k ↦ inl (
            (h.0, stays.0, k.0, h.3),
            λ g. elim g as (λ _. ⊥) [
              | inl a ↦ l.0 (subst (λ it. In it before.gone) p a)
              | inr a ↦ k.1 ((leaving h.0).0 (subst (λ it. In it leave) p a)).1
            ],
          )
          | inr k ↦ inr (inl (h.0, (arriving h.0).1 (stays, k), h.3))
        ]
  ]

  apart : (t : TokenValue) → Was t → Came t → ⊥
  apart t h (inl k) =
      let same : k.0 ≡ h.0 = parent_is t k.0 k.2 ∙ sym (parent_is t h.0 h.3) in
      not_again positive (Had h.0) (Has h.0) h.2 (subst (λ n. Arrives positive (Had n) (Has n)) same ((arriving k.0).0 k.1).1)
  apart t h (inr k) =
      let same : k.0 ≡ h.0 = parent_is t k.0 k.3 ∙ sym (parent_is t h.0 h.3) in
      h.1.1 (subst (λ n. In n before.come) same k.1)

  read : (t : TokenValue) → Was t ⊎ Final t → (n : ℕ) × IsReadable before n × (t ≡ passed_on n)
  read t (inl h) = (h.0, h.1.0, h.3)
  read t (inr h) = (h.0, there_read before h.0 h.1, h.3)

  same : (i j : ℕ) (t u : TokenValue) → token_at own.tokens i ≡ Some t → token_at own.tokens j ≡ Some u → Was t ⊎ Final t → Was u ⊎ Final u
      → (partial_after None own.tokens at i).parts ≡ (partial_after None own.tokens at j).parts → t ≡ u
  same i j t u e d h k parts =
      let n = read t h in
      let m = read u k in
      let one = stands_for at own.tokens i n.0 (e ∙ ap Some n.2) in
      let other = stands_for at own.tokens j m.0 (d ∙ ap Some m.2) in
      let equal : n.0 ≡ m.0 = turns.one n.0 m.0 n.1 m.1 (ap (λ (it : Partial). it.parts) (sym one) ∙ (parts ∙ ap (λ (it : Partial). it.parts) other)) in
      n.2 ∙ (ap passed_on equal ∙ sym m.2)

  pub tokens_after : AreTokens own (Passed positive Has (IsThere before))
  tokens_after = after.they_are own₀ own₂ own Was Lost Came Final none_gone none_come behind lost come stay come_final split apart

  pub turns_after : Turns (partial_after None own.tokens at) own (filter q old) (filter q' new)
  turns_after =
      after.they_turn own₀ own₂ own Was Lost Came Final none_gone none_come behind lost come stay come_final split apart (partial_after None own.tokens at) (filter q old) (filter q' new)
      (they_stand positive Had q at (WasThere before) (WasThere own) held_so own.tokens old turns.was
      (after.was_old own₀ own₂ own Was Lost Came Final none_gone none_come behind lost come stay come_final split apart)
      (after.old_was own₀ own₂ own Was Lost Came Final none_gone none_come behind lost come stay come_final split apart))
      (they_stand positive Has q' at (IsThere before) (IsThere own) holds_so own.tokens new turns.is
      (after.is_new own₀ own₂ own Was Lost Came Final none_gone none_come behind lost come stay come_final split apart)
      (after.new_is own₀ own₂ own Was Lost Came Final none_gone none_come behind lost come stay come_final split apart))
      same
