-- The tokens of a list after a change in which some went and then others came.
use Rattle.std.proofs.Common.{◌≡◌, ◌≢◌, ◌∙◌, ◌++◌, ◌⊎◌, ℕ, List, [], Some, ap, inl, inr, subst, sym}
use Rattle.cb_beta.proofs.Live.{live_token, some_none, there_is}
use Rattle.cb_beta.specs.BetaMemories.{BetaMemoryValue, Loses, live}
use Rattle.cb_beta.specs.Tokens.{TokenValue, token_at}
use Rattle.cb_matches.specs.Chains.{Chain, In}
use Rattle.cb_matches.specs.Matches.{Partial}
use Rattle.cb_token_lists.proofs.Arrivals.{one_token}
use Rattle.cb_token_lists.specs.Growth.{AreTokens, Comes}
use Rattle.cb_token_lists.specs.Turns.{IsThere, StandFor, Turns, WasThere}

-- those that were such were there, of these some went, and then others came
module _ (old now new : BetaMemoryValue) (Was Lost Came Final : TokenValue → Type 0) (none_gone : old.gone ≡ []) (none_come : old.come ≡ [])
    (was : AreTokens old Was) (lost : Loses old now Lost) (come : Comes now new Came)
    (stays : (t : TokenValue) → Was t → (Lost t → ⊥) → Final t) (comes : (t : TokenValue) → Came t → Final t)
    (all : (t : TokenValue) → Final t → (Was t × (Lost t → ⊥)) ⊎ Came t) (apart : (t : TokenValue) → Was t → Came t → ⊥) where
  live_is : (i : ℕ) (t : TokenValue) → token_at old.tokens i ≡ Some t → live old i ≡ Some t
  live_is i t e = there_is old.tokens old.gone i (λ h. subst (In i) none_gone h) ∙ e

  is_live : (i : ℕ) (t : TokenValue) → live old i ≡ Some t → token_at old.tokens i ≡ Some t
  is_live i t e = (live_token old.tokens old.gone i t e).1

  now_tokens : (i : ℕ) → token_at now.tokens i ≡ token_at old.tokens i
  now_tokens i = ap (λ it. token_at it i) lost.tokens

  gone_is : new.gone ≡ lost.more
  gone_is = come.gone ∙ (lost.gone ∙ ap (λ it. it ++ lost.more) none_gone)

  come_is : new.come ≡ come.more
  come_is = come.come ∙ ap (λ it. it ++ come.more) (lost.come ∙ none_come)

  new_not_gone : (i : ℕ) → In i come.more → In i new.gone → ⊥
  new_not_gone i h k =
      let a = lost.are i (subst (In i) gone_is k) in
      some_none (token_at now.tokens i) (now_tokens i ∙ is_live i a.0 a.1) (come.are i h).2

  old_not_come : (i : ℕ) (t : TokenValue) → token_at old.tokens i ≡ Some t → In i come.more → ⊥
  old_not_come i t e h = some_none (token_at now.tokens i) (now_tokens i ∙ e) (come.are i h).2

  pub kept_on : (i : ℕ) (t : TokenValue) → token_at old.tokens i ≡ Some t → token_at new.tokens i ≡ Some t
  kept_on i t e = come.kept i t (now_tokens i ∙ e)

  old_or_new : (i : ℕ) (t : TokenValue) → token_at new.tokens i ≡ Some t → (token_at old.tokens i ≡ Some t) ⊎ In i come.more
  old_or_new i t e = elim (come.only i t e) as (λ _. (token_at old.tokens i ≡ Some t) ⊎ In i come.more) [
    | inl k ↦ inl (sym (now_tokens i) ∙ k)
    | inr k ↦ inr k
  ]

  new_such : (i : ℕ) (t : TokenValue) → token_at new.tokens i ≡ Some t → In i come.more → Came t
  new_such i t e h = let a = come.are i h in subst Came (one_token new i a.0 t a.1 e) a.3

  -- then just these are there
  pub they_are : AreTokens new Final
  they_are = record {
    are = λ i t h.
        let l = live_token new.tokens new.gone i t h in
        elim (old_or_new i t l.1) as (λ _. Final t) [
          | inr k ↦ comes t (new_such i t l.1 k)
          | inl k ↦ stays t (was.are i t (live_is i t k)) (λ such. l.0 (subst (In i) (sym gone_is) (lost.all i t (live_is i t k) such)))
        ];
    all = λ t h. elim (all t h) as (λ _. (i : ℕ) × (live new i ≡ Some t)) [
      | inr k ↦ let a = come.all t k in (a.0, there_is new.tokens new.gone a.0 (new_not_gone a.0 a.1) ∙ a.2)
      | inl k ↦
          let i = was.all t k.0 in
          let e = is_live i.0 t i.1 in
          let there : In i.0 lost.more → ⊥ = λ l. let b = lost.are i.0 l in k.1 (subst Lost (one_token old i.0 b.0 t (is_live i.0 b.0 b.1) e) b.2) in
          (i.0, there_is new.tokens new.gone i.0 (λ l. there (subst (In i.0) gone_is l)) ∙ kept_on i.0 t e)
    ];
    one = λ i j t e d. elim (old_or_new i t e) as (λ _. i ≡ j) [
      | inl a ↦ elim (old_or_new j t d) as (λ _. i ≡ j) [
        | inl b ↦ was.one i j t a b
        | inr b ↦ absurd (apart t (was.are i t (live_is i t a)) (new_such j t d b))
      ]
      | inr a ↦ elim (old_or_new j t d) as (λ _. i ≡ j) [
        | inl b ↦ absurd (apart t (was.are j t (live_is j t b)) (new_such i t e a))
        | inr b ↦ come.one i j t a b e d
      ]
    ];
  }

  -- those that could be read were such, or are now
  pub known : (i : ℕ) (t : TokenValue) → token_at new.tokens i ≡ Some t → Was t ⊎ Final t
  known i t e = elim (old_or_new i t e) as (λ _. Was t ⊎ Final t) [
    | inl k ↦ inl (was.are i t (live_is i t k))
    | inr k ↦ inr (comes t (new_such i t e k))
  ]

  pub was_old : (i : ℕ) → WasThere new i → (t : TokenValue) × (token_at new.tokens i ≡ Some t) × Was t
  was_old i h = elim (old_or_new i h.0.0 h.0.1) as (λ _. (t : TokenValue) × (token_at new.tokens i ≡ Some t) × Was t) [
    | inl k ↦ (h.0.0, h.0.1, was.are i h.0.0 (live_is i h.0.0 k))
    | inr k ↦ absurd (h.1 (subst (In i) (sym come_is) k))
  ]

  pub old_was : (t : TokenValue) → Was t → (i : ℕ) × WasThere new i × (token_at new.tokens i ≡ Some t)
  old_was t h =
      let i = was.all t h in
      let e = is_live i.0 t i.1 in
      (i.0, ((t, kept_on i.0 t e), λ k. old_not_come i.0 t e (subst (In i.0) come_is k)), kept_on i.0 t e)

  pub is_new : (i : ℕ) → IsThere new i → (t : TokenValue) × (token_at new.tokens i ≡ Some t) × Final t
  is_new i h = (h.0, (live_token new.tokens new.gone i h.0 h.1).1, they_are.are i h.0 h.1)

  pub new_is : (t : TokenValue) → Final t → (i : ℕ) × IsThere new i × (token_at new.tokens i ≡ Some t)
  new_is t h = let i = they_are.all t h in (i.0, (t, i.1), (live_token new.tokens new.gone i.0 t i.1).1)

  -- and the list turned, where tokens with the same parts are the same
  pub they_turn : (at : ℕ → Partial) (ms ms' : List Partial) → StandFor at (WasThere new) ms → StandFor at (IsThere new) ms'
      → ((i j : ℕ) (t u : TokenValue) → token_at new.tokens i ≡ Some t → token_at new.tokens j ≡ Some u → Was t ⊎ Final t → Was u ⊎ Final u → (at i).parts ≡ (at j).parts → t ≡ u)
      → Turns at new ms ms'
  they_turn at ms ms' stood stand same = record {
    was = stood;
    is = stand;
    one = λ i j h k e.
        let one : h.0 ≡ k.0 = same i j h.0 k.0 h.1 k.1 (known i h.0 h.1) (known j k.0 k.1) e in
        they_are.one i j h.0 h.1 (k.1 ∙ ap Some (sym one));
    went = λ i h.
        let a = lost.are i (subst (In i) gone_is h) in
        let e = is_live i a.0 a.1 in
        ((a.0, kept_on i a.0 e), λ k. old_not_come i a.0 e (subst (In i) come_is k));
    came = λ i h.
        let k = subst (In i) come_is h in
        let a = come.are i k in
        (a.0, there_is new.tokens new.gone i (new_not_gone i k) ∙ a.1);
    gone_once = subst (Chain (λ (i : ℕ) (j : ℕ). i ≢ j)) (sym gone_is) lost.once;
    come_once = subst (Chain (λ (i : ℕ) (j : ℕ). i ≢ j)) (sym come_is) come.once;
  }
