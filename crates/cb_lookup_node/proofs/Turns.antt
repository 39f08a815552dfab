-- Who loses or gains the fact that it sees, where integers are compared, is who sees the fact that went or came alone.
use Rattle.std.proofs.Common.{◌≡◌, ◌∙◌, ◌⊎◌, ℕ, List, Option, Some, None, Result, Ok, Err, IfOk, ap, inl, inr, length, subst, sym}
use Rattle.cb_alpha.proofs.ReadFacts.{is_its_number, not_both, same_some, were_read}
use Rattle.cb_alpha.specs.AlphaMemories.{AlphaMemoryValue, live, values_in}
use Rattle.cb_alpha.specs.Turning.{IsApart, is_number, were_in}
use Rattle.cb_facts.specs.declared.value.Value.{Value}
use Rattle.cb_fit.specs.declared.comparison.Comparison.{Comparison}
use Rattle.cb_fit.specs.declared.join_fields.JoinField.{JoinField}
use Rattle.cb_lookup_node.proofs.Looked.{come_live, come_under, gone_was, live_was, under, was_live}
use Rattle.cb_lookup_node.proofs.Seen.{as_many_fields, has_fact}
use Rattle.cb_lookup_node.specs.Internal.{IsGained, IsLost, values_under}
use Rattle.cb_lookup_node.specs.LookupNodes.{AreInOrder, HasSeen}
use Rattle.cb_lookup_node.specs.Order.{IsSeenAlone}

-- what holds where a call succeeds, by another word
pub if_ok : {A E : Type 0} (r : Result A E) (P Q : A → Type 0) → ((a : A) → P a → Q a) → IfOk r P → IfOk r Q
if_ok (Ok a) P Q f p = f a p
if_ok (Err e) P Q f p = p

none_is : {A P : Type 0} {a : A} (o : Option A) → o ≡ None → o ≡ Some a → P
none_is {A} {P} {a} o e d = absurd (let no : None ≡ Some a = sym e ∙ d in cc)

pub under_many : (js : List JoinField) (alpha : AlphaMemoryValue) (o : Option ℕ) (vs : List Value) → values_under js alpha o ≡ Some vs → length vs ≡ length js
under_many js alpha o vs e =
    let n = under js alpha o vs e in
    let f = has_fact js _ vs n.2 in
    as_many_fields f.0.1.content js vs f.2

module _ (c : Comparison) (js : List JoinField) (alpha : AlphaMemoryValue) (apart : IsApart alpha) where
  pub none_lost : values_under js alpha alpha.gone ≡ None → (vs : List Value) → IsLost (Some c) js alpha vs → ⊥
  none_lost none vs h =
      let (os, k, (n, e)) = h.0 in
      elim (was_live js alpha n os e) as (λ _. ⊥) [
        | inl l ↦ h.1 (os, k, (n, l))
        | inr g ↦ none_is (values_under js alpha alpha.gone) none g
      ]

  pub none_gained : values_under js alpha alpha.come ≡ None → (vs : List Value) → IsGained (Some c) js alpha vs → ⊥
  none_gained none vs h =
      let (os, k, (n, e)) = h.1 in
      elim (live_was js alpha n os e) as (λ _. ⊥) [
        | inl l ↦ h.0 (os, k, (n, l))
        | inr g ↦ none_is (values_under js alpha alpha.come) none (come_under js alpha n os g e)
      ]

  module _ (ws : List Value) (went : values_under js alpha alpha.gone ≡ Some ws) where
    pub lost_alone : (vs : List Value) → IsLost (Some c) js alpha vs → IsSeenAlone c js alpha None ws vs
    lost_alone vs h =
        let (os, k, (n, e)) = h.0 in
        elim (was_live js alpha n os e) as (λ _. IsSeenAlone c js alpha None ws vs) [
          | inl l ↦ absurd (h.1 (os, k, (n, l)))
          | inr g ↦ (subst (λ (it : List Value). AreInOrder c it vs) (same_some (values_under js alpha alpha.gone) g went) k, λ us other d. h.1 (us, d, (other.0, other.1)))
        ]

    pub alone_lost : (vs : List Value) → IsSeenAlone c js alpha None ws vs → IsLost (Some c) js alpha vs
    alone_lost vs k = ((ws, k.0, gone_was js alpha apart ws went), λ h. k.1 h.0 (h.2.0, h.2.1, no_number h.2.0) h.1)
      where
        no_number : (n : ℕ) → None ≡ Some n → ⊥
        no_number n d = absurd (cc)

  module _ (ws : List Value) (came : values_under js alpha alpha.come ≡ Some ws) where
    pub gained_alone : (vs : List Value) → IsGained (Some c) js alpha vs → IsSeenAlone c js alpha alpha.come ws vs
    gained_alone vs h =
        let (os, k, (n, e)) = h.1 in
        elim (live_was js alpha n os e) as (λ _. IsSeenAlone c js alpha alpha.come ws vs) [
          | inl l ↦ absurd (h.0 (os, k, (n, l)))
          | inr g ↦ (
            subst (λ (it : List Value). AreInOrder c it vs) (same_some (values_under js alpha alpha.come) (come_under js alpha n os g e) came) k,
            λ us other d. elim (live_was js alpha other.0 us other.1) as (λ _. ⊥) [ inl l ↦ h.0 (us, d, (other.0, l)) | inr m ↦ other.2 m ],
          )
        ]

    pub alone_gained : alpha.gone ≡ None → (vs : List Value) → IsSeenAlone c js alpha alpha.come ws vs → IsGained (Some c) js alpha vs
    alone_gained none vs k = (had, (ws, k.0, let m = come_live js alpha apart ws came in (m.0, m.2)))
      where
        not_come : (n : ℕ) (os : List Value) → values_in js (were_in alpha n) ≡ Some os → alpha.come ≡ Some n → ⊥
        not_come n os e d =
            let f = has_fact js (were_in alpha n) os e in
            not_both (is_number alpha.come n) (is_its_number alpha.come n d) (were_read alpha n f.0 f.1).1

        had : HasSeen (Some c) js (were_in alpha) vs → ⊥
        had (os, d, (n, e)) = elim (was_live js alpha n os e) as (λ _. ⊥) [
          | inl l ↦ k.1 os (n, l, not_come n os e) d
          | inr g ↦ none_is (values_under js alpha alpha.gone) (ap (values_under js alpha) none) g
        ]

    pub come_has : (n : ℕ) → alpha.come ≡ Some n → values_in js (live alpha n) ≡ Some ws
    come_has n d =
        let m = come_live js alpha apart ws came in
        subst (λ it. values_in js (live alpha it) ≡ Some ws) (same_some alpha.come m.1 d) m.2

-- where a fact came, none went
pub no_gone : (js : List JoinField) (alpha : AlphaMemoryValue) (ws : List Value) → values_under js alpha alpha.come ≡ Some ws → (alpha.gone ≡ None) ⊎ (alpha.come ≡ None) → alpha.gone ≡ None
no_gone js alpha ws e (inl g) = g
no_gone js alpha ws e (inr c) = none_is (values_under js alpha alpha.come) (ap (values_under js alpha) c) e
