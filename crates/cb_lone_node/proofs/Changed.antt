-- What a change does behind a group of one pattern that stands alone.
use Rattle.std.proofs.Common.{◌≡◌, ◌∙◌, ◌⊎◌, ◌↔◌, ℕ, Bool, true, false, List, [], Option, Some, None, ap, filter, inl, inr, refl, subst, sym}
use Rattle.std.specs.Option.{option_map_or}
use Rattle.cb_beta.proofs.Live.{live_token, there_is}
use Rattle.cb_beta.proofs.Losses.{then}
use Rattle.cb_beta.proofs.Members.{by_in}
use Rattle.cb_beta.specs.BetaMemories.{BetaMemoryValue, Loses}
use Rattle.cb_beta.specs.Tokens.{TokenValue, Tokens, partial_after, token_at, with_taken}
use Rattle.cb_groups.specs.Groups.{Membership}
use Rattle.cb_lone_node.proofs.Parents.{leaves, come_arrive, of_arrives, of_leaves}
use Rattle.cb_lone_node.specs.Internal.{AreOf, Arrives, Leaves}
use Rattle.cb_lone_node.specs.LoneNodes.{AreParents, ArePassedAlone, PassesAll, passed_alone}
use Rattle.cb_matches.proofs.Growth.{Fact}
use Rattle.cb_matches.proofs.Lists.{by_test, filter_in, in_filter}
use Rattle.cb_matches.specs.Chains.{In}
use Rattle.cb_matches.specs.Matches.{Partial, no_parts}
use Rattle.cb_token_lists.proofs.After.{is_new, new_is, old_was, they_are, they_turn, was_old}
use Rattle.cb_token_lists.proofs.Keeping.{there_read}
use Rattle.cb_token_lists.specs.Growth.{AreTokens, Comes}
use Rattle.cb_token_lists.specs.Turns.{IsReadable, IsThere, StandFor, Turns, WasThere}

-- what a token behind the group stands for
stands_for : (at : ℕ → Partial) (ts : Tokens) (i n : ℕ) → token_at ts i ≡ Some (passed_alone n) → partial_after None ts at i ≡ at n
stands_for at ts i n e = ap (λ o. option_map_or (λ (t : TokenValue). with_taken None t.taken (at t.parent)) o no_parts) e

they_stand : (positive : Bool) (facts : ℕ → Option Fact) (q : Partial → Bool) → ((m : Partial) → (q m ≡ true) ↔ PassesAll positive facts)
    → (at : ℕ → Partial) (ts : Tokens) (Th There : ℕ → Type 0) (ms : List Partial) → StandFor at Th ms
    → ((i : ℕ) → There i → (t : TokenValue) × (token_at ts i ≡ Some t) × ArePassedAlone positive facts Th t)
    → ((t : TokenValue) → ArePassedAlone positive facts Th t → (i : ℕ) × There i × (token_at ts i ≡ Some t))
    → StandFor (partial_after None ts at) There (filter q ms)
they_stand positive facts q so at ts Th There ms stand are all = record {
  to = λ i h.
      let a = are i h in
      let n = a.2.0 in
      let is : partial_after None ts at i ≡ at n = stands_for at ts i n (a.1 ∙ ap Some a.2.3) in
      subst (λ z. In z (filter q ms)) (sym is) (filter_in q (at n) ms (stand.to n a.2.1) ((so (at n)).1 a.2.2));
  from = λ z h.
      let k = in_filter q z ms h in
      let n = stand.from z k.0 in
      let i = all (passed_alone n.0) (n.0, n.1, (so z).0 k.1, refl) in
      (i.0, i.1, n.2 ∙ sym (stands_for at ts i.0 n.0 i.2));
}

module _ (positive : Bool) (were are : ℕ → Option Fact) (at : ℕ → Partial) (before : BetaMemoryValue) (old new : List Partial) (turns : Turns at before old new) (q q' : Partial → Bool)
    (held_so : (m : Partial) → (q m ≡ true) ↔ PassesAll positive were) (holds_so : (m : Partial) → (q' m ≡ true) ↔ PassesAll positive are)
    (held holds : Bool) (held_is : (held ≡ true) ↔ PassesAll positive were) (holds_is : (holds ≡ true) ↔ PassesAll positive are)
    (parents : Membership) (kept : AreParents (IsThere before) parents) (leave arrive : List ℕ) (leaving : (n : ℕ) → In n leave ↔ Leaves held holds parents n)
    (arriving : (n : ℕ) → In n arrive ↔ Arrives held holds before.come parents n) (own₀ own₁ own₂ own : BetaMemoryValue)
    (behind : AreTokens own₀ (ArePassedAlone positive were (WasThere before))) (none_gone : own₀.gone ≡ []) (none_come : own₀.come ≡ [])
    (lost₁ : Loses own₀ own₁ (λ t. In t.parent before.gone)) (lost₂ : Loses own₁ own₂ (λ t. In t.parent leave)) (come : Comes own₂ own (AreOf (λ n. In n arrive))) where
  abbrev Was : TokenValue → Type 0
  Was = ArePassedAlone positive were (WasThere before)

  abbrev Lost : TokenValue → Type 0
  Lost t = In t.parent before.gone ⊎ In t.parent leave

  abbrev Came : TokenValue → Type 0
  Came = AreOf (λ n. In n arrive)

  abbrev Final : TokenValue → Type 0
  Final = ArePassedAlone positive are (IsThere before)

  lost : Loses own₀ own₂ Lost
  lost = then own₀ own₁ (λ t. In t.parent before.gone) lost₁ own₂ (λ t. In t.parent leave) lost₂

  parent_is : (t : TokenValue) (n : ℕ) → t ≡ passed_alone n → n ≡ t.parent
  parent_is t n e = ap (λ (it : TokenValue). it.parent) (sym e)

  both : (b : Bool) {P : Type 0} → b ≡ true → b ≡ false → P
  both b e f = absurd (let no : true ≡ false = sym e ∙ f in cc)

  stay : (t : TokenValue) → Was t → (Lost t → ⊥) → Final t
  stay t h apart =
      let p = parent_is t h.0 h.3 in
      let there : IsThere before h.0 = (h.1.0.0, there_is before.tokens before.gone h.0 (λ k. apart (inl (subst (λ it. In it before.gone) p k))) ∙ h.1.0.1) in
      let passes : PassesAll positive are =
      by_test holds (λ t'. holds_is.0 t')
      (λ f. absurd (apart (inr (subst (λ it. In it leave) p ((leaving h.0).1 (leaves held holds parents h.0 (held_is.1 h.2) f (kept.all h.0 there))))))) in
      (h.0, there, passes, h.3)

  arrive_there : (n : ℕ) → In n arrive → IsThere before n
  arrive_there n h = elim (of_arrives held holds before.come parents n ((arriving n).0 h)).1 as (λ _. IsThere before n) [
    | inl k ↦ turns.came n k.1
    | inr k ↦ kept.are n k.1
  ]

  come_final : (t : TokenValue) → Came t → Final t
  come_final t h = (h.0, arrive_there h.0 h.1, holds_is.0 (of_arrives held holds before.come parents h.0 ((arriving h.0).0 h.1)).0, h.2)

  split : (t : TokenValue) → Final t → (Was t × (Lost t → ⊥)) ⊎ Came t
  split t h =
      let l = live_token before.tokens before.gone h.0 h.1.0 h.1.1 in
      let now = holds_is.1 h.2 in
      let p = sym (parent_is t h.0 h.3) in
      by_test held
      (λ e. elim (by_in h.0 before.come) as (λ _. (Was t × (Lost t → ⊥)) ⊎ Came t) [
        | inl k ↦ inr (h.0, (arriving h.0).1 ((come_arrive held holds before.come parents e now h.0).0 k), h.3)
        | inr m ↦ inl (
          (h.0, ((h.1.0, l.1), m), held_is.0 e, h.3),
          λ k. elim k as (λ _. ⊥) [
            | inl g ↦ l.0 (subst (λ it. In it before.gone) p g)
            | inr g ↦ both holds now (of_leaves held holds parents h.0 ((leaving h.0).0 (subst (λ it. In it leave) p g))).1
          ],
        )
      ])
      (λ f. inr (h.0, (arriving h.0).1 (all_come held holds f now h.0 h.1), h.3))
    where
      all_come : (a b : Bool) → a ≡ false → b ≡ true → (n : ℕ) → IsThere before n → Arrives a b before.come parents n
      all_come false true e f n there = kept.all n there
      all_come false false e f n there = absurd (cc)
      all_come true b e f n there = absurd (cc)

  apart : (t : TokenValue) → Was t → Came t → ⊥
  apart t h k =
      let same : k.0 ≡ h.0 = parent_is t k.0 k.2 ∙ sym (parent_is t h.0 h.3) in
      elim (of_arrives held holds before.come parents k.0 ((arriving k.0).0 k.1)).1 as (λ _. ⊥) [
        | inl c ↦ h.1.1 (subst (λ n. In n before.come) same c.1)
        | inr c ↦ both held (held_is.1 h.2) c.0
      ]

  read : (t : TokenValue) → Was t ⊎ Final t → (n : ℕ) × IsReadable before n × (t ≡ passed_alone n)
  read t (inl h) = (h.0, h.1.0, h.3)
  read t (inr h) = (h.0, there_read before h.0 h.1, h.3)

  same : (i j : ℕ) (t u : TokenValue) → token_at own.tokens i ≡ Some t → token_at own.tokens j ≡ Some u → Was t ⊎ Final t → Was u ⊎ Final u
      → (partial_after None own.tokens at i).parts ≡ (partial_after None own.tokens at j).parts → t ≡ u
  same i j t u e d h k parts =
      let n = read t h in
      let m = read u k in
      let one = stands_for at own.tokens i n.0 (e ∙ ap Some n.2) in
      let other = stands_for at own.tokens j m.0 (d ∙ ap Some m.2) in
      let equal : n.0 ≡ m.0 = turns.one n.0 m.0 n.1 m.1 (ap (λ (it : Partial). it.parts) (sym one) ∙ (parts ∙ ap (λ (it : Partial). it.parts) other)) in
      n.2 ∙ (ap passed_alone equal ∙ sym m.2)

  pub tokens_after : AreTokens own (ArePassedAlone positive are (IsThere before))
  tokens_after = they_are own₀ own₂ own Was Lost Came Final none_gone none_come behind lost come stay come_final split apart

  pub turns_after : Turns (partial_after None own.tokens at) own (filter q old) (filter q' new)
  turns_after = they_turn own₀ own₂ own Was Lost Came Final none_gone none_come behind lost come stay come_final split apart (partial_after None own.tokens at) (filter q old) (filter q' new)
      (they_stand positive were q held_so at own.tokens (WasThere before) (WasThere own) old turns.was
      (was_old own₀ own₂ own Was Lost Came Final none_gone none_come behind lost come stay come_final split apart)
      (old_was own₀ own₂ own Was Lost Came Final none_gone none_come behind lost come stay come_final split apart))
      (they_stand positive are q' holds_so at own.tokens (IsThere before) (IsThere own) new turns.is
      (is_new own₀ own₂ own Was Lost Came Final none_gone none_come behind lost come stay come_final split apart)
      (new_is own₀ own₂ own Was Lost Came Final none_gone none_come behind lost come stay come_final split apart))
      same
