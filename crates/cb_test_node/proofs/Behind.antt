-- What a change does behind a test.
use Rattle.std.proofs.Common.{◌≡◌, ◌∙◌, ◌⊎◌, ℕ, true, false, List, Some, None, ap, filter, inl, inr, refl, subst, sym}
use Rattle.std.specs.Option.{option_map_or}
use Rattle.cb_beta.proofs.Live.{live_token, there_is}
use Rattle.cb_beta.proofs.Members.{by_in}
use Rattle.cb_beta.specs.BetaMemories.{BetaMemoryValue, Gains, Loses}
use Rattle.cb_beta.specs.Tokens.{TokenValue, Tokens, partial_after, token_at, with_taken}
use Rattle.cb_exprs.specs.Terms.{Term}
use Rattle.cb_matches.proofs.Lists.{filter_in, in_filter}
use Rattle.cb_matches.specs.Chains.{In}
use Rattle.cb_matches.specs.Matches.{Partial, no_parts, test_holds}
use Rattle.cb_test_node.specs.Tests.{ArePassed, IsAfter, IsBefore, IsPassed, passed_on}
use Rattle.cb_token_lists.proofs.After.{is_new, new_is, old_was, they_are, they_turn, was_old}
use Rattle.cb_token_lists.proofs.Arrivals.{come_alike, none_come, one_comes}
use Rattle.cb_token_lists.specs.Growth.{Comes}
use Rattle.cb_token_lists.specs.Turns.{IsReadable, IsThere, StandFor, WasThere}

module _ (test : Term) (at : ℕ → Partial) where
  -- a partial match that fails the test isn't passed on, and one that passes it is
  pub fails : (own : BetaMemoryValue) (n : ℕ) → test_holds test (at n).env ≡ false → Comes own own (IsPassed test at n)
  fails own n no_way = none_come own (IsPassed test at n) (λ t h. let both : true ≡ false = sym h.0 ∙ no_way in cc)

  pub passes : (old new : BetaMemoryValue) (n i : ℕ) → test_holds test (at n).env ≡ true → Gains old new i (passed_on n) → Comes old new (IsPassed test at n)
  passes old new n i holds is = come_alike old new (λ t. t ≡ passed_on n) (IsPassed test at n) (λ t e. (holds, e)) (λ t h. h.1) (one_comes old new i (passed_on n) is)

  pub differ : (i j : ℕ) (t : TokenValue) → IsPassed test at i t → IsPassed test at j t → i ≡ j
  differ i j t h k = ap (λ (it : TokenValue). it.parent) (sym h.1 ∙ k.1)

  -- what a token behind the test stands for
  stands_for : (ts : Tokens) (i n : ℕ) → token_at ts i ≡ Some (passed_on n) → partial_after None ts at i ≡ at n
  stands_for ts i n e = ap (λ o. option_map_or (λ (t : TokenValue). with_taken None t.taken (at t.parent)) o no_parts) e

  they_stand : (ts : Tokens) (Th There : ℕ → Type 0) (ms : List Partial) → StandFor at Th ms
      → ((i : ℕ) → There i → (t : TokenValue) × (token_at ts i ≡ Some t) × ArePassed test at Th t)
      → ((t : TokenValue) → ArePassed test at Th t → (i : ℕ) × There i × (token_at ts i ≡ Some t))
      → StandFor (partial_after None ts at) There (filter (λ m. test_holds test m.env) ms)
  they_stand ts Th There ms stand are all = record {
    to = λ i h.
        let a = are i h in
        let n = a.2.0 in
        let is : partial_after None ts at i ≡ at n = stands_for ts i n (a.1 ∙ ap Some a.2.2.1) in
        subst (λ z. In z (filter (λ m. test_holds test m.env) ms)) (sym is) (filter_in (λ m. test_holds test m.env) (at n) ms (stand.to n a.2.1) a.2.2.0);
    from = λ z h.
        let k = in_filter (λ m. test_holds test m.env) z ms h in
        let n = stand.from z k.0 in
        let i = all (passed_on n.0) (n.0, n.1, (ap (λ (m : Partial). test_holds test m.env) (sym n.2) ∙ k.1, refl)) in
        (i.0, i.1, n.2 ∙ sym (stands_for ts i.0 n.0 i.2));
  }

  -- a whole change
  module _ (before own₀ own₁ own : BetaMemoryValue) (old new : List Partial) (b : IsBefore test at before own₀ old new) (lost : Loses own₀ own₁ (λ t. In t.parent before.gone))
      (come : Comes own₁ own (ArePassed test at (λ n. In n before.come))) where
    abbrev Was : TokenValue → Type 0
    Was = ArePassed test at (WasThere before)

    abbrev Lost : TokenValue → Type 0
    Lost t = In t.parent before.gone

    abbrev Came : TokenValue → Type 0
    Came = ArePassed test at (λ n. In n before.come)

    abbrev Final : TokenValue → Type 0
    Final = ArePassed test at (IsThere before)

    stay : (t : TokenValue) → Was t → (Lost t → ⊥) → Final t
    stay t h apart = (
      h.0,
      (h.1.0.0, there_is before.tokens before.gone h.0 (λ k. apart (subst (λ it. In it before.gone) (ap (λ (it : TokenValue). it.parent) (sym h.2.1)) k)) ∙ h.1.0.1),
      h.2,
    )

    arrive : (t : TokenValue) → Came t → Final t
    arrive t h = (h.0, b.turns.came h.0 h.1, h.2)

    split : (t : TokenValue) → Final t → (Was t × (Lost t → ⊥)) ⊎ Came t
    split t h = elim (by_in h.0 before.come) as (λ _. (Was t × (Lost t → ⊥)) ⊎ Came t) [
      | inl k ↦ inr (h.0, k, h.2)
      | inr k ↦
          let l = live_token before.tokens before.gone h.0 h.1.0 h.1.1 in
          inl ((h.0, ((h.1.0, l.1), k), h.2), λ g. l.0 (subst (λ it. In it before.gone) (ap (λ (it : TokenValue). it.parent) h.2.1) g))
    ]

    apart : (t : TokenValue) → Was t → Came t → ⊥
    apart t h k = h.1.1 (subst (λ n. In n before.come) (differ k.0 h.0 t k.2 h.2) k.1)

    read : (t : TokenValue) → Was t ⊎ Final t → (n : ℕ) × IsReadable before n × (t ≡ passed_on n)
    read t (inl h) = (h.0, h.1.0, h.2.1)
    read t (inr h) = (h.0, (h.1.0, (live_token before.tokens before.gone h.0 h.1.0 h.1.1).1), h.2.1)

    same : (i j : ℕ) (t u : TokenValue) → token_at own.tokens i ≡ Some t → token_at own.tokens j ≡ Some u → Was t ⊎ Final t → Was u ⊎ Final u
        → (partial_after None own.tokens at i).parts ≡ (partial_after None own.tokens at j).parts → t ≡ u
    same i j t u e d h k parts =
        let n = read t h in
        let m = read u k in
        let first = stands_for own.tokens i n.0 (e ∙ ap Some n.2) in
        let second = stands_for own.tokens j m.0 (d ∙ ap Some m.2) in
        let one : n.0 ≡ m.0 = b.turns.one n.0 m.0 n.1 m.1 (ap (λ (it : Partial). it.parts) (sym first) ∙ (parts ∙ ap (λ (it : Partial). it.parts) second)) in
        n.2 ∙ (ap passed_on one ∙ sym m.2)

    pub changed : IsAfter test at before own old new
    changed = record {
      tokens = they_are own₀ own₁ own Was Lost Came Final b.none_gone b.none_come b.tokens lost come stay arrive split apart;
      turns = they_turn own₀ own₁ own Was Lost Came Final b.none_gone b.none_come b.tokens lost come stay arrive split apart (partial_after None own.tokens at)
          (filter (λ m. test_holds test m.env) old) (filter (λ m. test_holds test m.env) new)
          (they_stand own.tokens (WasThere before) (WasThere own) old b.turns.was
          (was_old own₀ own₁ own Was Lost Came Final b.none_gone b.none_come b.tokens lost come stay arrive split apart)
          (old_was own₀ own₁ own Was Lost Came Final b.none_gone b.none_come b.tokens lost come stay arrive split apart))
          (they_stand own.tokens (IsThere before) (IsThere own) new b.turns.is
          (is_new own₀ own₁ own Was Lost Came Final b.none_gone b.none_come b.tokens lost come stay arrive split apart)
          (new_is own₀ own₁ own Was Lost Came Final b.none_gone b.none_come b.tokens lost come stay arrive split apart))
          same;
    }
