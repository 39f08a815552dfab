-- The keys of rules where one is added, and where one is taken away.
use Rattle.std.proofs.Common.{◌≡◌, ◌≢◌, ℕ, ◌<◌, Bool, false, not, List, [], ◌∷◌, ◌++◌, filter, nat_eq, inl, inr, refl, sym, ◌∙◌, ap, ap₂, subst, arith, cond}
use Rattle.std.proofs.lemmas.Bool.Decides.{Decides-eqb}
use Rattle.std.proofs.lemmas.List.{append-nil, append_assoc}
use Rattle.std.specs.List.{flat_map}
use Rattle.cb_facts.specs.FactLists.{IndexedFacts}
use Rattle.cb_rule_keys.proofs.KeyLists.{all_new, come_in_parts, none_new}
use Rattle.cb_rule_keys.proofs.Networks.{of_branches, of_rules, rule_keys_more}
use Rattle.cb_rule_keys.specs.Keys.{branch_keys, rule_keys}
use Rattle.cb_rule_keys.specs.Numbers.{HaveOwnNumbers, Kept}
use Rattle.cb_matches.specs.Changes.{IsAbove, come_of}
use Rattle.cb_matches.specs.Keys.{KeyValue}
use Rattle.cb_matches.proofs.Lists.{by_test, chain_append, chain_filter, in_contains, in_either, in_filter, in_left, in_right}
use Rattle.cb_matches.specs.Chains.{In}
use Rattle.cb_matches.specs.Networks.{Conditions}

-- a rule more
module _ (rs : Conditions) (r : Kept) (fs : IndexedFacts) where
  pub keys_with : rule_keys (rs ++ r ∷ []) fs ≡ rule_keys rs fs ++ branch_keys r.0 0 r.1 fs
  keys_with = with_last rs
    where
      with_last : (ss : Conditions) → rule_keys (ss ++ r ∷ []) fs ≡ rule_keys ss fs ++ branch_keys r.0 0 r.1 fs
      with_last [] = rule_keys_more r [] fs ∙ append-nil (branch_keys r.0 0 r.1 fs)
      with_last (s ∷ ss) =
          rule_keys_more s (ss ++ r ∷ []) fs
          ∙ (ap (λ it. branch_keys s.0 0 s.1 fs ++ it) (with_last ss)
          ∙ (sym (append_assoc (branch_keys s.0 0 s.1 fs) (rule_keys ss fs) (branch_keys r.0 0 r.1 fs)) ∙ ap (λ it. it ++ branch_keys r.0 0 r.1 fs) (sym (rule_keys_more s ss fs))))

  above_each : IsAbove r.0 rs → (s : Kept) → In s rs → s.0 < r.0
  above_each above s h = let c = in_contains s rs h in subst (λ it. it.0 < r.0) c.2 (above c.0 s c.1)

  pub added_keys : IsAbove r.0 rs → branch_keys r.0 0 r.1 fs ≡ come_of (rule_keys rs fs) (rule_keys (rs ++ r ∷ []) fs)
  added_keys above = sym (
      ap₂ come_of (sym (append-nil (rule_keys rs fs))) keys_with
      ∙ (come_in_parts (rule_keys rs fs) [] (rule_keys rs fs) (branch_keys r.0 0 r.1 fs) (λ k h i. absurd i)
      (λ k h i. let s = of_rules rs fs k i in
      let l : s.0.0 < r.0 = above_each above s.0 s.1 in
      let e : k.rule ≡ s.0.0 = s.2 in
      let d : k.rule ≡ r.0 = (of_branches r.0 0 r.1 fs k h).0 in
      absurd (omega (arith, l, e, d)))
      ∙ ap₂ (λ (a : List KeyValue) (b : List KeyValue). a ++ b) (none_new (rule_keys rs fs) (rule_keys rs fs) (λ k h. h)) (all_new (branch_keys r.0 0 r.1 fs))))

  pub none_dropped : [] ≡ come_of (rule_keys (rs ++ r ∷ []) fs) (rule_keys rs fs)
  none_dropped = sym (none_new (rule_keys (rs ++ r ∷ []) fs) (rule_keys rs fs) (λ k h. subst (λ it. In k it) (sym keys_with) (in_left k (rule_keys rs fs) (branch_keys r.0 0 r.1 fs) h)))

  pub numbers_with : IsAbove r.0 rs → HaveOwnNumbers rs → HaveOwnNumbers (rs ++ r ∷ [])
  numbers_with above numbers =
      chain_append (λ (s : Kept) (t : Kept). s.0 ≢ t.0) rs (r ∷ []) numbers (λ z h. absurd h, tt)
      (λ s t h i e. elim i as (λ _. ⊥) [
        | inl d ↦ (let l : s.0 < r.0 = above_each above s h in let c : t.0 ≡ r.0 = ap (λ it. it.0) d in absurd (omega (arith, l, c, e)))
        | inr j ↦ absurd j
      ])

pub differs : (i j : ℕ) → (i ≡ j → ⊥) → nat_eq i j ≡ false
differs i j h = by_test (nat_eq i j) (λ t. absurd (h ((Decides-eqb i j).0 t))) (λ t. t)

-- a rule less
module _ (id : ℕ) (fs : IndexedFacts) where
  abbrev others : Kept → Bool
  others r = not (nat_eq id r.0)

  -- the keys of a rule, if it has the number
  abbrev pub dropped : Kept → List KeyValue
  dropped r = cond (nat_eq id r.0) (branch_keys r.0 0 r.1 fs) []

  abbrev left : Kept → Conditions → Bool → Conditions
  left r rs b = cond (not b) (r ∷ filter others rs) (filter others rs)

  abbrev lost : Kept → Bool → List KeyValue
  lost r b = cond b (branch_keys r.0 0 r.1 fs) []

  pub dropped_keys : (rs : Conditions) → HaveOwnNumbers rs → flat_map dropped rs ≡ come_of (rule_keys (filter others rs) fs) (rule_keys rs fs)
  dropped_keys [] numbers = refl
  dropped_keys (r ∷ rs) numbers =
      let own : List KeyValue = branch_keys r.0 0 r.1 fs in
      let apart : (k : KeyValue) → In k own → In k (rule_keys (filter others rs) fs) → ⊥ =
      (λ k h i. let s = of_rules (filter others rs) fs k i in numbers.0 s.0 (in_filter others s.0 rs s.1).0 (sym (of_branches r.0 0 r.1 fs k h).0 ∙ s.2)) in
      let apart_too : (k : KeyValue) → In k (rule_keys rs fs) → In k own → ⊥ =
      (λ k h i. let s = of_rules rs fs k h in numbers.0 s.0 s.1 (sym (of_branches r.0 0 r.1 fs k i).0 ∙ s.2)) in
      by_test (nat_eq id r.0)
      (λ t. subst (λ b. lost r b ++ flat_map dropped rs ≡ come_of (rule_keys (left r rs b) fs) (rule_keys (r ∷ rs) fs)) (sym t)
      (ap (λ it. own ++ it) (dropped_keys rs numbers.1)
      ∙ sym (ap (come_of (rule_keys (filter others rs) fs)) (rule_keys_more r rs fs)
      ∙ (come_in_parts [] (rule_keys (filter others rs) fs) own (rule_keys rs fs) apart (λ k h i. absurd i)
      ∙ ap (λ it. it ++ come_of (rule_keys (filter others rs) fs) (rule_keys rs fs)) (all_new own)))))
      (λ t. subst (λ b. lost r b ++ flat_map dropped rs ≡ come_of (rule_keys (left r rs b) fs) (rule_keys (r ∷ rs) fs)) (sym t)
      (dropped_keys rs numbers.1
      ∙ sym (ap₂ come_of (rule_keys_more r (filter others rs) fs) (rule_keys_more r rs fs)
      ∙ (come_in_parts own (rule_keys (filter others rs) fs) own (rule_keys rs fs) apart apart_too
      ∙ ap (λ it. it ++ come_of (rule_keys (filter others rs) fs) (rule_keys rs fs)) (none_new own own (λ k h. h))))))

  kept_keys : (rs : Conditions) (k : KeyValue) → In k (rule_keys (filter others rs) fs) → In k (rule_keys rs fs)
  kept_keys [] k h = h
  kept_keys (r ∷ rs) k h =
      let here : In k (branch_keys r.0 0 r.1 fs) → In k (rule_keys (r ∷ rs) fs) = (λ i. subst (λ it. In k it) (sym (rule_keys_more r rs fs)) (in_left k (branch_keys r.0 0 r.1 fs) (rule_keys rs fs) i)) in
      let later : In k (rule_keys (filter others rs) fs) → In k (rule_keys (r ∷ rs) fs) =
      (λ i. subst (λ it. In k it) (sym (rule_keys_more r rs fs)) (in_right k (branch_keys r.0 0 r.1 fs) (rule_keys rs fs) (kept_keys rs k i))) in
      by_test (nat_eq id r.0)
      (λ t. later (subst (λ b. In k (rule_keys (left r rs b) fs)) t h))
      (λ t. elim (in_either k (branch_keys r.0 0 r.1 fs) (rule_keys (filter others rs) fs)
      (subst (λ it. In k it) (rule_keys_more r (filter others rs) fs) (subst (λ b. In k (rule_keys (left r rs b) fs)) t h))) as (λ _. In k (rule_keys (r ∷ rs) fs)) [
        | inl i ↦ here i
        | inr i ↦ later i
      ])

  pub none_added : (rs : Conditions) → [] ≡ come_of (rule_keys rs fs) (rule_keys (filter others rs) fs)
  none_added rs = sym (none_new (rule_keys rs fs) (rule_keys (filter others rs) fs) (kept_keys rs))

  pub numbers_left : (rs : Conditions) → HaveOwnNumbers rs → HaveOwnNumbers (filter others rs)
  numbers_left rs numbers = chain_filter (λ (s : Kept) (t : Kept). s.0 ≢ t.0) others rs numbers
