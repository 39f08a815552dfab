-- Partial matches that are kept anew, one after another.
use Rattle.std.proofs.Common.{◌≡◌, ◌≢◌, ◌∙◌, ◌+◌, ◌<◌, ◌++◌, ◌∷◌, ◌↔◌, ℕ, Bool, true, false, List, [], Option, Some, None, ap, cond, get_or, inl, inr, length, refl, subst, sym, take, take-append-drop, drop, Result, Ok, Err, IfOk, OnOk}
use Rattle.std.proofs.lemmas.Bool.{cases_eq}
use Rattle.std.specs.Bool.{Decides}
use Rattle.cb_alpha.proofs.ReadFacts.{live_read, not_both, same_some}
use Rattle.cb_alpha.specs.AlphaMemories.{AlphaMemoryValue, candidate_in, live, values_in}
use Rattle.cb_alpha.specs.Buckets.{Filing, Refiles, values_at}
use Rattle.cb_alpha.specs.JoinValues.{variable_values}
use Rattle.cb_beta.proofs.Members.{contains_in, in_contains, in_either, in_left, in_more, in_right, more_in, once_append}
use Rattle.cb_facts.specs.declared.value.Value.{Value}
use Rattle.cb_fit.specs.declared.comparison.ComparedField.{ComparedField}
use Rattle.cb_fit.specs.declared.join_fields.JoinField.{JoinField}
use Rattle.cb_groups.specs.Groups.{Membership, Updates, group_of}
use Rattle.cb_lookup_node.proofs.Seen.{has_fact}
use Rattle.cb_lookup_node.specs.Internal.{AreReplaced, HasItsFacts, HasWitness, IsOut, IsPlaced}
use Rattle.cb_lookup_node.specs.LookupNodes.{HasPlace, SeesFact, compares_with}
use Rattle.cb_lookup_node.specs.declared.witnesses.Witnesses.{Witnesses}
use Rattle.cb_matches.proofs.Growth.{Fact}
use Rattle.cb_matches.specs.Chains.{Chain, In}
use Rattle.cb_matches.specs.Matches.{Partial}
use Rattle.cb_token_lists.proofs.Arrivals.{next_apart}

abbrev Keeping : Type 1
Keeping = ℕ → Option ℕ → Option (List Value) → Type 0

only_one : (n x : ℕ) → In n (x ∷ []) → n ≡ x
only_one n x (inl e) = e
only_one n x (inr h) = absurd h

-- the one at a place is in the list
pub one_in : (xs : List ℕ) (i : ℕ) → i < length xs → In (get_or xs i 0) xs
one_in xs i l = subst (In (get_or xs i 0)) (take-append-drop (i + 1) xs) (in_left (get_or xs i 0) (take (i + 1) xs) (drop (i + 1) xs) (in_more xs i (get_or xs i 0) l (inr refl)))

pub none_replaced : (w : Witnesses) (Now : Keeping) → AreReplaced w w [] Now
none_replaced w Now = record { here = λ n h. absurd h; given = λ n h. refl; unseen = λ n h. refl }

-- one more of a list
pub one_replaced : (w₀ w w' : Witnesses) (Now : Keeping) (xs : List ℕ) (i : ℕ) → i < length xs → AreReplaced w₀ w (take i xs) Now → AreReplaced w w' (get_or xs i 0 ∷ []) Now
    → AreReplaced w₀ w' (take (i + 1) xs) Now
one_replaced w₀ w w' Now xs i l was one = record {
  here = λ n h. elim (cases_eq n x) as (λ _. Now n (group_of w'.given n) (values_at w'.unseen n)) [
    | inl e ↦ one.here n (inl e)
    | inr d ↦
        subst (λ g. Now n g (values_at w'.unseen n)) (sym (one.given n (other n d)))
        (subst (λ v. Now n (group_of w.given n) v) (sym (one.unseen n (other n d))) (was.here n (before n d h)))
  ];
  given = λ n apart. one.given n (λ k. apart (in_more xs i n l (inr (only_one n x k)))) ∙ was.given n (λ k. apart (in_more xs i n l (inl k)));
  unseen = λ n apart. one.unseen n (λ k. apart (in_more xs i n l (inr (only_one n x k)))) ∙ was.unseen n (λ k. apart (in_more xs i n l (inl k)));
}
  where
    x : ℕ
    x = get_or xs i 0

    other : (n : ℕ) → n ≢ x → In n (x ∷ []) → ⊥
    other n d h = d (only_one n x h)

    before : (n : ℕ) → n ≢ x → In n (take (i + 1) xs) → In n (take i xs)
    before n d h = elim (more_in xs i n l h) as (λ _. In n (take i xs)) [ inl k ↦ k | inr e ↦ absurd (d e) ]

pub taken_out : (w w' : Witnesses) (n : ℕ) → Updates w.given w'.given n None → Refiles w.unseen w'.unseen n None → AreReplaced w w' (n ∷ []) IsOut
taken_out w w' n g u = record {
  here = λ i h. let e = only_one i n h in (ap (group_of w'.given) e ∙ g.changed, ap (values_at w'.unseen) e ∙ u.changed);
  given = λ i apart. g.others i (λ e. apart (inl e));
  unseen = λ i apart. u.others i (λ e. apart (inl e));
}

-- one that was taken out gets a witness
pub given_one : (w w₁ w' : Witnesses) (n k : ℕ) → AreReplaced w w₁ (n ∷ []) IsOut → Updates w₁.given w'.given n (Some k) → w'.unseen ≡ w₁.unseen → AreReplaced w w' (n ∷ []) (HasWitness k)
given_one w w₁ w' n k out g same = record {
  here = λ i h.
      let e = only_one i n h in
      (ap (group_of w'.given) e ∙ g.changed, ap (λ it. values_at it i) same ∙ (out.here i h).1);
  given = λ i apart. g.others i (λ e. apart (inl e)) ∙ out.given i apart;
  unseen = λ i apart. ap (λ it. values_at it i) same ∙ out.unseen i apart;
}

module _ (cs : List ComparedField) (js : List JoinField) (alpha : AlphaMemoryValue) (at : ℕ → Partial) where
  abbrev facts : ℕ → Option Fact
  facts = live alpha

  abbrev Placed : Keeping
  Placed = IsPlaced cs js (live alpha) at

  -- one that was taken out gets its place
  module _ (w w₁ w' : Witnesses) (n : ℕ) (out : AreReplaced w w₁ (n ∷ []) IsOut) where
    pub placed_at : (witness : Option ℕ) (filed : Option (List Value)) → Updates w₁.given w'.given n witness → Refiles w₁.unseen w'.unseen n filed → HasPlace cs js facts (at n) witness filed
        → AreReplaced w w' (n ∷ []) Placed
    placed_at witness filed g u place = record {
      here = λ i h.
          let e = only_one i n h in
          subst (λ k. HasPlace cs js facts (at k) (group_of w'.given k) (values_at w'.unseen k)) (sym e)
          (subst (λ o. HasPlace cs js facts (at n) o (values_at w'.unseen n)) (sym g.changed) (subst (λ v. HasPlace cs js facts (at n) witness v) (sym u.changed) place));
      given = λ i apart. g.others i (λ e. apart (inl e)) ∙ out.given i apart;
      unseen = λ i apart. u.others i (λ e. apart (inl e)) ∙ out.unseen i apart;
    }

  -- the same filing, of which one is what it was
  pub same_filing : (u : Filing) (n : ℕ) (v : Option (List Value)) → values_at u n ≡ v → Refiles u u n v
  same_filing u n v e = record { changed = e; others = λ i d. refl }

  pub same_groups : (g : Membership) (n : ℕ) (o : Option ℕ) → group_of g n ≡ o → Updates g g n o
  same_groups g n o e = record { changed = e; others = λ i d. refl }

  module _ (n : ℕ) where
    abbrev m : Partial
    m = at n

    module _ (vs : List Value) (xs : List ℕ) (its : HasItsFacts js alpha vs xs m) where
      read : (k : ℕ) → values_in js (facts k) ≡ Some vs → facts k ≡ candidate_in alpha.candidates k
      read k e = let f = has_fact js (facts k) vs e in let r = live_read alpha k f.0 f.1 in f.1 ∙ sym r.0

      -- one of the facts that are found compares so
      pub one_seen : (k : ℕ) → In k xs → compares_with cs (candidate_in alpha.candidates k) m ≡ true → SeesFact cs js facts m k
      one_seen k h so =
          let e = (its.1.are k).0 (in_contains xs k h) in
          (vs, its.0, e, ap (λ it. compares_with cs it m) (read k e) ∙ so)

      -- none of them does
      pub none_seen : ((k : ℕ) → In k xs → compares_with cs (candidate_in alpha.candidates k) m ≡ false) → (k : ℕ) → SeesFact cs js facts m k → ⊥
      none_seen none k (us, given, e, so) =
          let same : us ≡ vs = same_some (variable_values js m.env) given its.0 in
          let mine : values_in js (facts k) ≡ Some vs = e ∙ ap Some same in
          let h = contains_in xs k ((its.1.are k).1 mine) in
          not_both (compares_with cs (candidate_in alpha.candidates k) m) (ap (λ it. compares_with cs it m) (sym (read k mine)) ∙ so) (none k h)

-- tests of what there is
pub decided_true : (S : Type 0) → S → Decides true S
decided_true S s = (λ t. s, λ h. refl)

pub decided_false : (S : Type 0) → (S → ⊥) → Decides false S
decided_false S none = (λ t. absurd (apart t), λ h. absurd (none h))
  where
    apart : false ≡ true → ⊥
    apart d = cc

-- one more of a list is in another, if this holds of it
module _ (P : ℕ → Type 0) (xs : List ℕ) (i : ℕ) (l : i < length xs) (all : List ℕ) where
  abbrev x : ℕ
  x = get_or xs i 0

  pub one_kept : (b : Bool) (all' : List ℕ) → Decides b (P x) → all' ≡ cond b (all ++ x ∷ []) all → ((n : ℕ) → In n all ↔ (In n (take i xs) × P n)) → (n : ℕ) → In n all' ↔ (In n (take (i + 1) xs) × P n)
  one_kept true all' so e was n = (
    λ h. elim (in_either n all (x ∷ []) (subst (In n) e h)) as (λ _. In n (take (i + 1) xs) × P n) [
      | inl k ↦ let p = (was n).0 k in (in_more xs i n l (inl p.0), p.1)
      | inr k ↦ let is = only_one n x k in (in_more xs i n l (inr is), subst P (sym is) (so.0 refl))
    ],
    λ h. subst (In n) (sym e) (elim (more_in xs i n l h.0) as (λ _. In n (all ++ x ∷ [])) [
      | inl k ↦ in_left n all (x ∷ []) ((was n).1 (k, h.1))
      | inr is ↦ in_right n all (x ∷ []) (inl is)
    ]),
  )
  one_kept false all' so e was n = (
    λ h. let p = (was n).0 (subst (In n) e h) in (in_more xs i n l (inl p.0), p.1),
    λ h. subst (In n) (sym e) (elim (more_in xs i n l h.0) as (λ _. In n all) [
      | inl k ↦ (was n).1 (k, h.1)
      | inr is ↦ absurd (apart (so.1 (subst P is h.1)))
    ]),
  )
    where
      apart : false ≡ true → ⊥
      apart d = cc

  pub once_kept : (b : Bool) (all' : List ℕ) → all' ≡ cond b (all ++ x ∷ []) all → ((n : ℕ) → In n all → In n (take i xs)) → Chain (λ (j : ℕ) (k : ℕ). j ≢ k) xs → Chain (λ (j : ℕ) (k : ℕ). j ≢ k) all
      → Chain (λ (j : ℕ) (k : ℕ). j ≢ k) all'
  once_kept true all' e within once was =
      subst (Chain (λ (j : ℕ) (k : ℕ). j ≢ k)) (sym e)
      (once_append all (x ∷ []) was (λ z h. absurd h, tt) (λ n h k. next_apart xs i l once (subst (λ it. In it (take i xs)) (only_one n x k) (within n h))))
  once_kept false all' e within once was = subst (Chain (λ (j : ℕ) (k : ℕ). j ≢ k)) (sym e) was

-- what holds where a call succeeds, from three of its clauses
pub ok_three : {A E : Type 0} {Q : Type 0} (r : Result A E) (P R S : A → Type 0) → ((a : A) → Q → P a → R a → S a) → OnOk r Q → IfOk r P → IfOk r R → IfOk r S
ok_three (Ok a) P R S f q p s = f a q p s
ok_three (Err e) P R S f q p s = p
