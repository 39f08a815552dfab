-- Which values the facts of an alpha memory have, before and after a change.
use Rattle.std.proofs.Common.{◌≡◌, ◌≢◌, ◌↔◌, ◌⊎◌, ◌∙◌, ◌<◌, ◌==◌, ◌∷◌, ℕ, suc, Bool, true, false, List, [], Option, Some, None, ap, arith, inl, inr, length, nat_eq, not, refl, subst, sym}
use Rattle.std.proofs.lemmas.Bool.{cases_eq, eqb-true}
use Rattle.cb_alpha.proofs.ReadFacts.{is_its_number, live_read, not_both, number_is, read_live, read_were, same_some, were_read}
use Rattle.cb_alpha.specs.AlphaMemories.{AlphaMemoryValue, AreFactsWith, AreSameFields, candidate_in, live, values_in}
use Rattle.cb_alpha.specs.Buckets.{AreWithValues, Filing}
use Rattle.cb_alpha.specs.Turning.{HasJoin, IsApart, is_number, were_in}
use Rattle.cb_beta.proofs.Members.{apart_of, contains_in, in_contains}
use Rattle.cb_facts.specs.declared.value.Value.{Value}
use Rattle.cb_fit.specs.declared.join_fields.JoinField.{JoinField}
use Rattle.cb_lookup_node.proofs.Seen.{has_fact}
use Rattle.cb_lookup_node.specs.Internal.{IsFiledBy, IsGained, IsLost, values_under}
use Rattle.cb_lookup_node.specs.LookupNodes.{HasOne}
use Rattle.cb_matches.proofs.Growth.{Fact}
use Rattle.cb_matches.proofs.Lists.{by_test}
use Rattle.cb_matches.specs.Chains.{Chain, In}

-- whether a list is empty, by a test
pub none_left : (xs : List ℕ) (b : Bool) → b ≡ (length xs == 0) → b ≡ true → xs ≡ []
none_left [] b e t = refl
none_left (x ∷ xs) b e t = absurd (let no : nat_eq (suc (length xs)) 0 ≡ true = sym e ∙ t in not_zero (length xs) (eqb-true (suc (length xs)) 0 no))
  where
    not_zero : (n : ℕ) → suc n ≡ 0 → ⊥
    not_zero n h = absurd (omega arith)

left_none : (xs : List ℕ) (b : Bool) → b ≡ (length xs == 0) → xs ≡ [] → b ≡ true
left_none xs b e none = e ∙ ap (λ (it : List ℕ). length it == 0) none

pub some_left : (xs : List ℕ) (b : Bool) → b ≡ (length xs == 0) → b ≡ false → xs ≡ [] → ⊥
some_left xs b e f none = not_both b (left_none xs b e none) f

pub some_tested : (xs : List ℕ) (b : Bool) → b ≡ (length xs == 0) → not b ≡ true → xs ≡ [] → ⊥
some_tested xs true e t none = absurd (cc)
some_tested xs false e t none = some_left xs false e refl none

pub tested_some : (xs : List ℕ) (b : Bool) → b ≡ (length xs == 0) → (xs ≡ [] → ⊥) → not b ≡ true
tested_some xs true e some = absurd (some (none_left xs true e refl))
tested_some xs false e some = refl

-- the number whose fact has values
pub under : (js : List JoinField) (alpha : AlphaMemoryValue) (o : Option ℕ) (vs : List Value) → values_under js alpha o ≡ Some vs
    → (n : ℕ) × (o ≡ Some n) × (values_in js (candidate_in alpha.candidates n) ≡ Some vs)
under js alpha None vs e = absurd (cc)
under js alpha (Some n) vs e = (n, refl, e)

module _ (js : List JoinField) (alpha : AlphaMemoryValue) where
  read_so : (n : ℕ) (vs : List Value) (o : Option Fact) → candidate_in alpha.candidates n ≡ o → values_in js o ≡ Some vs → values_in js (candidate_in alpha.candidates n) ≡ Some vs
  read_so n vs o same e = ap (values_in js) same ∙ e

  number_under : (o : Option ℕ) (n : ℕ) (vs : List Value) → o ≡ Some n → values_in js (candidate_in alpha.candidates n) ≡ Some vs → values_under js alpha o ≡ Some vs
  number_under o n vs is e = ap (values_under js alpha) is ∙ e

  -- a fact that was there is there, or went
  pub was_live : (n : ℕ) (vs : List Value) → values_in js (were_in alpha n) ≡ Some vs → (values_in js (live alpha n) ≡ Some vs) ⊎ (values_under js alpha alpha.gone ≡ Some vs)
  was_live n vs e =
      let g = has_fact js (were_in alpha n) vs e in
      let r = were_read alpha n g.0 g.1 in
      let has : values_in js (candidate_in alpha.candidates n) ≡ Some vs = read_so n vs (Some g.0) r.0 g.2 in
      by_test (is_number alpha.gone n)
      (λ t. inr (number_under alpha.gone n vs (number_is alpha.gone n t) has))
      (λ t. inl (ap (values_in js) (read_live alpha n t) ∙ has))

  -- a fact that is there was there, or came
  pub live_was : (n : ℕ) (vs : List Value) → values_in js (live alpha n) ≡ Some vs → (values_in js (were_in alpha n) ≡ Some vs) ⊎ (alpha.come ≡ Some n)
  live_was n vs e =
      let g = has_fact js (live alpha n) vs e in
      let r = live_read alpha n g.0 g.1 in
      let has : values_in js (candidate_in alpha.candidates n) ≡ Some vs = read_so n vs (Some g.0) r.0 g.2 in
      by_test (is_number alpha.come n)
      (λ t. inr (number_is alpha.come n t))
      (λ t. inl (ap (values_in js) (read_were alpha n t) ∙ has))

  pub come_under : (n : ℕ) (vs : List Value) → alpha.come ≡ Some n → values_in js (live alpha n) ≡ Some vs → values_under js alpha alpha.come ≡ Some vs
  come_under n vs is e =
      let g = has_fact js (live alpha n) vs e in
      let r = live_read alpha n g.0 g.1 in
      number_under alpha.come n vs is (read_so n vs (Some g.0) r.0 g.2)

  module _ (apart : IsApart alpha) where
    pub gone_was : (vs : List Value) → values_under js alpha alpha.gone ≡ Some vs → HasOne js (were_in alpha) vs
    gone_was vs e =
        let n = under js alpha alpha.gone vs e in
        by_test (is_number alpha.come n.0)
        (λ t. absurd (apart n.0 (number_is alpha.come n.0 t) n.1))
        (λ t. (n.0, ap (values_in js) (read_were alpha n.0 t) ∙ n.2))

    pub come_live : (vs : List Value) → values_under js alpha alpha.come ≡ Some vs → (n : ℕ) × (alpha.come ≡ Some n) × (values_in js (live alpha n) ≡ Some vs)
    come_live vs e =
        let n = under js alpha alpha.come vs e in
        by_test (is_number alpha.gone n.0)
        (λ t. absurd (apart n.0 n.1 (number_is alpha.gone n.0 t)))
        (λ t. (n.0, n.1, ap (values_in js) (read_live alpha n.0 t) ∙ n.2))

    -- values that the last fact had, and those that the first has
    pub lost_is : (vs : List Value) → values_under js alpha alpha.gone ≡ Some vs → (HasOne js (live alpha) vs → ⊥) → IsLost None js alpha vs
    lost_is vs e none = (gone_was vs e, none)

    pub is_lost : (vs : List Value) → IsLost None js alpha vs → values_under js alpha alpha.gone ≡ Some vs
    is_lost vs h = elim (was_live h.0.0 vs h.0.1) as (λ _. values_under js alpha alpha.gone ≡ Some vs) [
      | inl k ↦ absurd (h.1 (h.0.0, k))
      | inr e ↦ e
    ]

    pub gained_is : (vs : List Value) → values_under js alpha alpha.come ≡ Some vs → (values_under js alpha alpha.gone ≡ Some vs → ⊥)
        → ((n : ℕ) → values_in js (live alpha n) ≡ Some vs → alpha.come ≡ Some n) → IsGained None js alpha vs
    gained_is vs e other only =
        let c = come_live vs e in (
          λ w. elim (was_live w.0 vs w.1) as (λ _. ⊥) [
            | inl k ↦
                let g = has_fact js (were_in alpha w.0) vs w.1 in
                not_both (is_number alpha.come w.0) (is_its_number alpha.come w.0 (only w.0 k)) (were_read alpha w.0 g.0 g.1).1
            | inr d ↦ other d
          ],
          (c.0, c.2),
        )

    pub is_gained : (vs : List Value) → IsGained None js alpha vs
        → (values_under js alpha alpha.come ≡ Some vs) × (values_under js alpha alpha.gone ≡ Some vs → ⊥) × ((n : ℕ) → values_in js (live alpha n) ≡ Some vs → alpha.come ≡ Some n)
    is_gained vs h = (come_under h.1.0 vs (only h.1.0 h.1.1) h.1.1, λ g. h.0 (gone_was vs g), only)
      where
        only : (n : ℕ) → values_in js (live alpha n) ≡ Some vs → alpha.come ≡ Some n
        only n e = elim (live_was n vs e) as (λ _. alpha.come ≡ Some n) [ inl w ↦ absurd (h.0 (n, w)) | inr c ↦ c ]

-- the facts that a join finds
pub same_values : (ks js : List JoinField) (o : Option Fact) → AreSameFields ks js → values_in ks o ≡ values_in js o
same_values ks js None same = refl
same_values ks js (Some f) same = same f.1.content

-- a list that isn't empty has a member
pub some_member : (ys : List ℕ) → (ys ≡ [] → ⊥) → (n : ℕ) × In n ys
some_member [] h = absurd (h refl)
some_member (y ∷ ys) h = (y, inl refl)

module _ (alpha : AlphaMemoryValue) (join : ℕ) (js : List JoinField) (has : HasJoin alpha join js) (vs : List Value) (xs : List ℕ) (these : AreFactsWith alpha has.0 vs xs) where
  -- they are those with these values in the fields
  pub found_by_fields : AreFactsWith alpha js vs xs
  found_by_fields = record {
    are = λ n. (λ h. sym (same_values has.0 js (live alpha n) has.2) ∙ (these.are n).0 h, λ e. (these.are n).1 (same_values has.0 js (live alpha n) has.2 ∙ e));
    once = these.once;
  }

  pub found_has : (n : ℕ) → In n xs → values_in js (live alpha n) ≡ Some vs
  found_has n h = sym (same_values has.0 js (live alpha n) has.2) ∙ (these.are n).0 (in_contains xs n h)

  pub has_found : (n : ℕ) → values_in js (live alpha n) ≡ Some vs → In n xs
  has_found n e = contains_in xs n ((these.are n).1 (same_values has.0 js (live alpha n) has.2 ∙ e))

  pub some_found : (xs ≡ [] → ⊥) → HasOne js (live alpha) vs
  some_found some = let n = some_member xs some in (n.0, found_has n.0 n.1)

  pub none_found : xs ≡ [] → HasOne js (live alpha) vs → ⊥
  none_found none h = subst (In h.0) none (has_found h.0 h.1)

  -- where there is one at most it is the one that came, and else there is another
  pub only_found : (1 < length xs → ⊥) → (c : ℕ) → values_in js (live alpha c) ≡ Some vs → (n : ℕ) → values_in js (live alpha n) ≡ Some vs → n ≡ c
  only_found few c e n d = alone xs few (has_found c e) (has_found n d)
    where
      alone : (ys : List ℕ) → (1 < length ys → ⊥) → In c ys → In n ys → n ≡ c
      alone [] few h k = absurd h
      alone (y ∷ []) few h k = elim h as (λ _. n ≡ c) [
        | inl a ↦ elim k as (λ _. n ≡ c) [ inl b ↦ b ∙ sym a | inr b ↦ absurd b ]
        | inr a ↦ absurd a
      ]
      alone (y ∷ (z ∷ ys)) few h k = absurd (few (omega arith))

  pub another_found : 1 < length xs → (c : ℕ) → (n : ℕ) × (values_in js (live alpha n) ≡ Some vs) × (n ≡ c → ⊥)
  another_found many c = let n = other xs (apart_of xs these.once) many in (n.0, found_has n.0 n.1, n.2)
    where
      other : (ys : List ℕ) → Chain (λ (i : ℕ) (j : ℕ). i ≢ j) ys → 1 < length ys → (n : ℕ) × In n ys × (n ≡ c → ⊥)
      other [] once l = absurd (omega (arith, l))
      other (y ∷ []) once l = absurd (omega (arith, l))
      other (y ∷ (z ∷ ys)) once l = elim (cases_eq y c) as (λ _. (n : ℕ) × In n (y ∷ (z ∷ ys)) × (n ≡ c → ⊥)) [
        | inl e ↦ (z, inr (inl refl), λ d. once.0 z (inl refl) (e ∙ sym d))
        | inr d ↦ (y, inl refl, d)
      ]

-- a list with two members
pub two : (xs : List ℕ) (k n : ℕ) → In k xs → In n xs → (n ≡ k → ⊥) → 1 < length xs
two [] k n h g d = absurd h
two (x ∷ []) k n h g d = elim h as (λ _. 1 < length (x ∷ [])) [
  | inl a ↦ elim g as (λ _. 1 < length (x ∷ [])) [ inl b ↦ absurd (d (b ∙ sym a)) | inr b ↦ absurd b ]
  | inr a ↦ absurd a
]
two (x ∷ (y ∷ xs)) k n h g d = omega arith

-- members by a value that is given
module _ (filing : Filing) (Such : List Value → Type 0) (o : Option (List Value)) (only : (vs : List Value) → Such vs → o ≡ Some vs) where
  pub no_member : o ≡ None → (n : ℕ) → In n [] ↔ IsFiledBy Such filing n
  no_member none n = (λ h. absurd h, λ h. absurd (apart h.0 (sym none ∙ only h.0 h.2)))
    where
      apart : (vs : List Value) → None ≡ Some vs → ⊥
      apart vs d = cc

  module _ (vs : List Value) (is : o ≡ Some vs) where
    same : (us : List Value) → Such us → us ≡ vs
    same us h = same_some o (only us h) is

    pub not_such : (Such vs → ⊥) → (n : ℕ) → In n [] ↔ IsFiledBy Such filing n
    not_such none n = (λ h. absurd h, λ h. absurd (none (subst Such (same h.0 h.2) h.2)))

    pub members_such : Such vs → (xs : List ℕ) → AreWithValues filing vs xs → (n : ℕ) → In n xs ↔ IsFiledBy Such filing n
    members_such such xs these n = (λ h. (vs, (these.are n).0 (in_contains xs n h), such), λ h. contains_in xs n ((these.are n).1 (h.1 ∙ ap Some (same h.0 h.2))))
