-- One list more turns.
use Rattle.std.proofs.Common.{◌≡◌, ◌≢◌, ◌∙◌, ◌<◌, ◌≤◌, ℕ, suc, List, Some, ap, arith, inl, inr, slice_get, subst, sym}
use Rattle.std.proofs.lemmas.Bool.{cases_eq}
use Rattle.cb_beta.specs.BetaMemories.{BetaMemoryValue, live}
use Rattle.cb_beta.specs.Tokens.{TokenValue, partial_after, token_at}
use Rattle.cb_list_changes.proofs.Local.{after_alike, local}
use Rattle.cb_list_changes.proofs.Memories.{live_read}
use Rattle.cb_list_changes.proofs.Places.{one_at, one_some, same_tokens, token_is, token_of, tokens_is}
use Rattle.cb_list_changes.specs.Halfway.{AreHalfway, IsStepped}
use Rattle.cb_list_changes.specs.Resting.{AgreeTo, AreRooted, IsPut}
use Rattle.cb_token_lists.proofs.Down.{goes_on}
use Rattle.cb_token_lists.proofs.Keeping.{there_read, turns_alike}
use Rattle.cb_token_lists.specs.Keeping.{KeepsTokens}
use Rattle.cb_token_lists.specs.Partials.{Extends, SourceValue, partial_at, tokens_in}
use Rattle.cb_token_lists.specs.Turns.{IsThere, Turns}
use Rattle.cb_nodes.specs.Flat.{Lists}

-- what is put in the place of a list, and keeps its tokens, keeps all that can be read
pub put_extends : (lists lists' : List BetaMemoryValue) (k : ℕ) (own own' : BetaMemoryValue) → slice_get lists k ≡ Some own → KeepsTokens own own' → IsPut lists lists' k own' → Extends lists lists'
put_extends lists lists' k own own' is keeps put j i t there = elim (cases_eq j k) as (λ _. token_at (tokens_in lists' j) i ≡ Some t) [
  | inl e ↦
      let at : slice_get lists j ≡ Some own = ap (slice_get lists) e ∙ is in
      let at' : slice_get lists' j ≡ Some own' = ap (slice_get lists') e ∙ put.there in
      token_is lists' j i own' t at' (keeps.tokens i t (token_of lists j i own t at there))
  | inr n ↦ ap (λ ts. token_at ts i) (same_tokens lists lists' j (put.others j n)) ∙ there
]

module _ (sources : List SourceValue) (before lists read lists' : List BetaMemoryValue) (old new : Lists) (k : ℕ) (s : SourceValue) (from own own' : BetaMemoryValue)
    (h : AreHalfway sources before lists old new k) (is : slice_get sources k ≡ Some s) (from_is : slice_get lists s.from ≡ Some from) (own_is : slice_get lists (suc k) ≡ Some own)
    (agree : AgreeTo k lists read) (step : IsStepped sources read s from own own' (old (suc k)) (new (suc k))) (put : IsPut lists lists' (suc k) own') where
  from_below : s.from < suc k
  from_below = h.rooted.below k s is

  same_to : (j : ℕ) → j ≤ k → slice_get lists' j ≡ slice_get lists j
  same_to j l = put.others j (λ e. absurd (omega (arith, l, e)))

  extends : Extends lists lists'
  extends = put_extends lists lists' (suc k) own own' own_is step.keeps put

  read_same : (j i : ℕ) → j ≤ k → partial_at sources read j i ≡ partial_at sources lists' j i
  read_same j i l = sym (local sources h.rooted.below k lists read agree j i l) ∙ local sources h.rooted.below k lists lists' same_to j i l

  own_turned : Turns (partial_at sources lists' (suc k)) own' (old (suc k)) (new (suc k))
  own_turned =
      turns_alike (partial_after s.address own'.tokens (partial_at sources read s.from)) (partial_at sources lists' (suc k)) own' (old (suc k)) (new (suc k))
      (λ i r. after_alike s.address own'.tokens (partial_at sources read s.from) (partial_at sources lists' s.from) i
      (λ t there. read_same s.from t.parent (omega (arith, from_below)))
      ∙ (ap (λ ts. partial_after s.address ts (partial_at sources lists' s.from) i) (sym (tokens_is lists' (suc k) own' put.there))
      ∙ sym (goes_on sources lists' h.rooted.below k i s is)))
      step.turns

  turned : (j : ℕ) (m : BetaMemoryValue) → j ≤ suc k → slice_get lists' j ≡ Some m → Turns (partial_at sources lists' j) m (old j) (new j)
  turned j m l at = elim (cases_eq j (suc k)) as (λ _. Turns (partial_at sources lists' j) m (old j) (new j)) [
    | inl e ↦
        let one : own' ≡ m = one_some (sym put.there ∙ (ap (slice_get lists') (sym e) ∙ at)) in
        subst (λ n. Turns (partial_at sources lists' n) m (old n) (new n)) (sym e)
        (subst (λ it. Turns (partial_at sources lists' (suc k)) it (old (suc k)) (new (suc k))) one own_turned)
    | inr n ↦
        let less : j ≤ k = omega (arith, l, n) in
        turns_alike (partial_at sources lists j) (partial_at sources lists' j) m (old j) (new j) (λ i r. local sources h.rooted.below k lists lists' same_to j i less)
        (h.turned j m less (sym (same_to j less) ∙ at))
  ]

  keeps : (j : ℕ) (m m' : BetaMemoryValue) → slice_get before j ≡ Some m → slice_get lists' j ≡ Some m' → KeepsTokens m m'
  keeps j m m' at at' = elim (cases_eq j (suc k)) as (λ _. KeepsTokens m m') [
    | inl e ↦
        let one : own' ≡ m' = one_some (sym put.there ∙ (ap (slice_get lists') (sym e) ∙ at')) in
        let first : own ≡ m = one_some (sym own_is ∙ (h.others (suc k) (omega arith) ∙ (ap (slice_get before) (sym e) ∙ at))) in
        subst (λ it. KeepsTokens it m') first (subst (λ it. KeepsTokens own it) one step.keeps)
    | inr n ↦ h.keeps j m m' at (sym (put.others j n) ∙ at')
  ]

  -- what is there behind the node, and what could be read there, goes on from what can be read
  own_rooted : (i : ℕ) (t : TokenValue) → token_at own'.tokens i ≡ Some t → (u : TokenValue) × (token_at (tokens_in lists' s.from) t.parent ≡ Some u)
  own_rooted i t there = elim (step.keeps.only i (t, there)) as (λ _. (u : TokenValue) × (token_at (tokens_in lists' s.from) t.parent ≡ Some u)) [
    | inl r ↦
        let same : r.0 ≡ t = one_some (sym (step.keeps.tokens i r.0 r.1) ∙ there) in
        let u = h.rooted.parents k i s r.0 is (token_is lists (suc k) i own r.0 own_is r.1) in
        (u.0, extends s.from t.parent u.0 (subst (λ (it : TokenValue). token_at (tokens_in lists s.from) it.parent ≡ Some u.0) same u.1))
    | inr c ↦
        let l = step.turns.came i c in
        let same : l.0 ≡ t = one_some (sym (live_read own' i l.0 l.1) ∙ there) in
        let u = there_read from t.parent (step.parents i t (l.1 ∙ ap Some same)) in
        (u.0, extends s.from t.parent u.0 (token_is lists s.from t.parent from u.0 from_is u.1))
  ]

  rooted : AreRooted sources lists'
  rooted = record {
    below = h.rooted.below;
    parents = λ n i s' t is' there. elim (cases_eq n k) as (λ _. (u : TokenValue) × (token_at (tokens_in lists' s'.from) t.parent ≡ Some u)) [
      | inl e ↦
          let one : s ≡ s' = one_some (sym is ∙ (ap (slice_get sources) (sym e) ∙ is')) in
          let at : slice_get lists' (suc n) ≡ Some own' = ap (λ it. slice_get lists' (suc it)) e ∙ put.there in
          subst (λ (it : SourceValue). (u : TokenValue) × (token_at (tokens_in lists' it.from) t.parent ≡ Some u)) one
          (own_rooted i t (token_of lists' (suc n) i own' t at there))
      | inr d ↦
          let apart : suc n ≢ suc k = λ e. d (omega (arith, e)) in
          let u = h.rooted.parents n i s' t is' (ap (λ ts. token_at ts i) (sym (same_tokens lists lists' (suc n) (put.others (suc n) apart))) ∙ there) in
          (u.0, extends s'.from t.parent u.0 u.1)
    ];
  }

  parents : (j i : ℕ) (s' : SourceValue) (m n : BetaMemoryValue) (t : TokenValue) → j < suc k → slice_get sources j ≡ Some s' → slice_get lists' s'.from ≡ Some m
      → slice_get lists' (suc j) ≡ Some n → live n i ≡ Some t → IsThere m t.parent
  parents j i s' m n t l is' m_is n_is there = elim (cases_eq j k) as (λ _. IsThere m t.parent) [
    | inl e ↦
        let one : s ≡ s' = one_some (sym is ∙ (ap (slice_get sources) (sym e) ∙ is')) in
        let here : own' ≡ n = one_some (sym put.there ∙ (ap (λ it. slice_get lists' (suc it)) (sym e) ∙ n_is)) in
        let from_same : slice_get lists' s'.from ≡ Some from = ap (λ (it : SourceValue). slice_get lists' it.from) (sym one) ∙ (same_to s.from (omega (arith, from_below)) ∙ from_is) in
        let behind : from ≡ m = one_at lists' s'.from from m from_same m_is in
        subst (λ it. IsThere it t.parent) behind (step.parents i t (ap (λ it. live it i) here ∙ there))
    | inr d ↦
        let b = h.rooted.below j s' is' in
        let less : j < k = omega (arith, l, d) in
        h.parents j i s' m n t less is' (sym (same_to s'.from (omega (arith, b, less))) ∙ m_is) (sym (same_to (suc j) (omega (arith, less))) ∙ n_is) there
  ]

  pub stepped : AreHalfway sources before lists' old new (suc k)
  stepped = record {
    long = put.long ∙ h.long;
    turned = turned;
    keeps = keeps;
    others = λ j l. put.others j (λ e. absurd (omega (arith, l, e))) ∙ h.others j (omega (arith, l));
    rooted = rooted;
    parents = parents;
  }
