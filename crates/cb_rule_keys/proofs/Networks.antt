-- The keys of rules, branch by branch.
use Rattle.std.proofs.Common.{◌≡◌, ◌≢◌, ℕ, ◌+◌, ◌<◌, ◌≤◌, List, [], ◌∷◌, ◌++◌, length, set, map, inl, inr, refl, sym, ◌∙◌, ap, ap₂, subst, arith, get_or, get_or-set_other, get_or-set_same}
use Rattle.std.proofs.lemmas.Bool.{cases_eq}
use Rattle.std.specs.List.{flat_map}
use Rattle.std.specs.Map.{keys_of}
use Rattle.cb_rules.specs.Elements.{Elements}
use Rattle.cb_exprs.specs.Bindings.{Bindings}
use Rattle.cb_facts.specs.FactLists.{IndexedFacts}
use Rattle.cb_rule_keys.specs.Keys.{branch_keys, key_of, rule_keys}
use Rattle.cb_matches.specs.Chains.{In}
use Rattle.cb_rule_keys.specs.Numbers.{HaveOwnNumbers}
use Rattle.cb_rule_keys.proofs.KeyLists.{come_in_parts}
use Rattle.cb_matches.proofs.Lists.{in_either, in_map}
use Rattle.cb_matches.specs.Changes.{come_of}
use Rattle.cb_matches.specs.Keys.{KeyValue}
use Rattle.cb_matches.specs.Matches.{Partial, matches_of}
use Rattle.cb_matches.specs.Networks.{Conditions, branch_matches, keyed, rule_matches}

keys_both : (xs ys : List (KeyValue × Bindings)) → keys_of (xs ++ ys) ≡ keys_of xs ++ keys_of ys
keys_both [] ys = refl
keys_both (x ∷ xs) ys = ap (λ it. x.0 ∷ it) (keys_both xs ys)

pub keys_keyed : (r n : ℕ) (ms : List Partial) → keys_of (map (keyed r n) ms) ≡ map (key_of r n) ms
keys_keyed r n [] = refl
keys_keyed r n (m ∷ ms) = ap (λ it. key_of r n m ∷ it) (keys_keyed r n ms)

pub branch_keys_more : (r n : ℕ) (es : Elements) (more : List Elements) (fs : IndexedFacts) → branch_keys r n (es ∷ more) fs ≡ map (key_of r n) (matches_of es fs) ++ branch_keys r (n + 1) more fs
branch_keys_more r n es more fs = keys_both (map (keyed r n) (matches_of es fs)) (branch_matches r (n + 1) more fs) ∙ ap (λ it. it ++ branch_keys r (n + 1) more fs) (keys_keyed r n (matches_of es fs))

-- whose keys they are
pub of_branches : (r n : ℕ) (bs : List Elements) (fs : IndexedFacts) (k : KeyValue) → In k (branch_keys r n bs fs) → (k.rule ≡ r) × (n ≤ k.branch)
of_branches r n [] fs k h = absurd h
of_branches r n (es ∷ more) fs k h =
    elim (in_either k (map (key_of r n) (matches_of es fs)) (branch_keys r (n + 1) more fs) (subst (λ it. In k it) (branch_keys_more r n es more fs) h)) as (λ _. (k.rule ≡ r) × (n ≤ k.branch)) [
      | inl i ↦ let m = in_map (key_of r n) k (matches_of es fs) i in (ap (λ it. it.rule) m.2, let e : k.branch ≡ n = ap (λ it. it.branch) m.2 in omega (arith, e))
      | inr i ↦ let m = of_branches r (n + 1) more fs k i in (m.0, let l = m.1 in omega (arith, l))
    ]

-- a branch and those after it
pub come_more : (r n : ℕ) (es : Elements) (more : List Elements) (fs gs : IndexedFacts)
    → come_of (branch_keys r n (es ∷ more) fs) (branch_keys r n (es ∷ more) gs)
    ≡ come_of (map (key_of r n) (matches_of es fs)) (map (key_of r n) (matches_of es gs)) ++ come_of (branch_keys r (n + 1) more fs) (branch_keys r (n + 1) more gs)
come_more r n es more fs gs =
    ap₂ come_of (branch_keys_more r n es more fs) (branch_keys_more r n es more gs)
    ∙ come_in_parts (map (key_of r n) (matches_of es fs)) (branch_keys r (n + 1) more fs) (map (key_of r n) (matches_of es gs)) (branch_keys r (n + 1) more gs)
    (λ k h i. let m = in_map (key_of r n) k (matches_of es gs) h in
    let e : k.branch ≡ n = ap (λ it. it.branch) m.2 in let l = (of_branches r (n + 1) more fs k i).1 in absurd (omega (arith, e, l)))
    (λ k h i. let m = in_map (key_of r n) k (matches_of es fs) i in
    let e : k.branch ≡ n = ap (λ it. it.branch) m.2 in let l = (of_branches r (n + 1) more gs k h).1 in absurd (omega (arith, e, l)))

pub rule_keys_more : (r : ℕ × List Elements) (rs : Conditions) (fs : IndexedFacts) → rule_keys (r ∷ rs) fs ≡ branch_keys r.0 0 r.1 fs ++ rule_keys rs fs
rule_keys_more r rs fs = keys_both (rule_matches fs r) (flat_map (rule_matches fs) rs)

pub of_rules : (rs : Conditions) (fs : IndexedFacts) (k : KeyValue) → In k (rule_keys rs fs) → (r : ℕ × List Elements) × In r rs × (k.rule ≡ r.0)
of_rules [] fs k h = absurd h
of_rules (r ∷ rs) fs k h =
    elim (in_either k (branch_keys r.0 0 r.1 fs) (rule_keys rs fs) (subst (λ it. In k it) (rule_keys_more r rs fs) h)) as (λ _. (s : ℕ × List Elements) × In s (r ∷ rs) × (k.rule ≡ s.0)) [
      | inl i ↦ (r, inl refl, (of_branches r.0 0 r.1 fs k i).0)
      | inr i ↦ let s = of_rules rs fs k i in (s.0, inr s.1, s.2)
    ]

-- a rule and those after it
pub rules_come_more : (r : ℕ × List Elements) (rs : Conditions) (fs gs : IndexedFacts) → HaveOwnNumbers (r ∷ rs)
    → come_of (rule_keys (r ∷ rs) fs) (rule_keys (r ∷ rs) gs) ≡ come_of (branch_keys r.0 0 r.1 fs) (branch_keys r.0 0 r.1 gs) ++ come_of (rule_keys rs fs) (rule_keys rs gs)
rules_come_more r rs fs gs numbers =
    ap₂ come_of (rule_keys_more r rs fs) (rule_keys_more r rs gs)
    ∙ come_in_parts (branch_keys r.0 0 r.1 fs) (rule_keys rs fs) (branch_keys r.0 0 r.1 gs) (rule_keys rs gs)
    (λ k h i. let s = of_rules rs fs k i in numbers.0 s.0 s.1 (sym (of_branches r.0 0 r.1 gs k h).0 ∙ s.2))
    (λ k h i. let s = of_rules rs gs k h in numbers.0 s.0 s.1 (sym (of_branches r.0 0 r.1 fs k i).0 ∙ s.2))

-- what is done and what is left, one step on
module _ {X : Type 0} (P : ℕ → X → X → Type 0) (xs : List X) (i : ℕ) (q : X) (l : i < length xs) where
  pub done_more : ((k : ℕ) (d : X) → k < i → P k d (get_or xs k d)) → ((d : X) → P i d q) → (k : ℕ) (d : X) → k < i + 1 → P k d (get_or (set xs i q) k d)
  done_more done now k d h = elim (cases_eq k i) as (λ _. P k d (get_or (set xs i q) k d)) [
    | inl e ↦ subst (λ j. P j d (get_or (set xs i q) j d)) (sym e) (subst (P i d) (sym (get_or-set_same xs i q d l)) (now d))
    | inr ne ↦ subst (P k d) (sym (get_or-set_other xs i k q d ne)) (done k d (omega (arith, h, ne)))
  ]

  pub left_more : ((k : ℕ) (d : X) → i ≤ k → k < length xs → P k d (get_or xs k d)) → (k : ℕ) (d : X) → i + 1 ≤ k → k < length xs → P k d (get_or (set xs i q) k d)
  left_more left k d h j = let ne : k ≢ i = omega (arith, h) in subst (P k d) (sym (get_or-set_other xs i k q d ne)) (left k d (omega (arith, h)) j)
