-- The match with a key is among those of its branch.
use Rattle.std.proofs.Common.{◌≡◌, ◌≢◌, ℕ, ◌+◌, ◌<◌, ◌≤◌, zero, suc, Bool, List, [], ◌∷◌, ◌++◌, Option, None, Some, map, inl, inr, refl, sym, ◌∙◌, ap, subst, arith, cond}
use Rattle.std.specs.List.{flat_map, slice_get}
use Rattle.std.specs.Map.{lookup}
use Rattle.std.specs.Option.{option_map_or}
use Rattle.cb_exprs.specs.Bindings.{Bindings, no_bindings}
use Rattle.cb_facts.specs.FactLists.{IndexedFacts}
use Rattle.cb_matches.specs.Keys.{KeyValue, key_eq}
use Rattle.cb_matches.proofs.Lists.{by_test, in_either, in_map}
use Rattle.cb_matches.specs.Chains.{In}
use Rattle.cb_matches.specs.Matches.{Partial, matches_of}
use Rattle.cb_matches.specs.Networks.{Conditions, all_matches, bindings_of, branch_matches, keyed, rule_matches}
use Rattle.cb_rule_keys.proofs.KeyLists.{key_Decides}
use Rattle.cb_rule_keys.specs.Numbers.{HaveOwnNumbers, Kept}
use Rattle.cb_rules.specs.Elements.{Elements}

abbrev Match : Type 0
Match = KeyValue × Bindings

module _ (k : KeyValue) where
  abbrev looked : Match → List Match → Bool → Option Bindings
  looked x xs b = cond b (Some x.1) (lookup (key_eq k) xs)

  -- where none has the key, none is found
  not_found : (xs : List Match) → ((m : Match) → In m xs → m.0 ≢ k) → lookup (key_eq k) xs ≡ None
  not_found [] none = refl
  not_found (x ∷ xs) none =
      by_test (key_eq k x.0) (λ t. absurd (none x (inl refl) (sym ((key_Decides k x.0).0 t)))) (λ t. ap (looked x xs) t ∙ not_found xs (λ m i. none m (inr i)))

  -- what is found in two lists
  found_left : (xs ys : List Match) → lookup (key_eq k) ys ≡ None → lookup (key_eq k) (xs ++ ys) ≡ lookup (key_eq k) xs
  found_left [] ys none = none
  found_left (x ∷ xs) ys none = ap (λ it. cond (key_eq k x.0) (Some x.1) it) (found_left xs ys none)

  found_right : (xs ys : List Match) → lookup (key_eq k) xs ≡ None → lookup (key_eq k) (xs ++ ys) ≡ lookup (key_eq k) ys
  found_right [] ys none = refl
  found_right (x ∷ xs) ys none =
      by_test (key_eq k x.0)
      (λ t. let no : Some x.1 ≡ None = subst (λ b. looked x xs b ≡ None) t none in absurd cc)
      (λ t. ap (looked x (xs ++ ys)) t ∙ found_right xs ys (subst (λ b. looked x xs b ≡ None) t none))

  module _ (fs : IndexedFacts) where
    -- whose matches they are
    of_branch : (r n : ℕ) (bs : List Elements) (m : Match) → In m (branch_matches r n bs fs) → (m.0.rule ≡ r) × (n ≤ m.0.branch)
    of_branch r n [] m h = absurd h
    of_branch r n (es ∷ more) m h =
        elim (in_either m (map (keyed r n) (matches_of es fs)) (branch_matches r (n + 1) more fs) h) as (λ _. (m.0.rule ≡ r) × (n ≤ m.0.branch)) [
          | inl i ↦ let at = in_map (keyed r n) m (matches_of es fs) i in (ap (λ (it : Match). it.0.rule) at.2, let e : m.0.branch ≡ n = ap (λ (it : Match). it.0.branch) at.2 in omega (arith, e))
          | inr i ↦ let at = of_branch r (n + 1) more m i in (at.0, let l = at.1 in omega (arith, l))
        ]

    apart : (r n : ℕ) (ms : List Partial) → k.branch ≢ n → lookup (key_eq k) (map (keyed r n) ms) ≡ None
    apart r n ms other = not_found (map (keyed r n) ms) (λ m i e. let at = in_map (keyed r n) m ms i in other (ap (λ (it : KeyValue). it.branch) (sym e) ∙ ap (λ (it : Match). it.0.branch) at.2))

    behind : (r n : ℕ) (bs : List Elements) → k.branch < n → lookup (key_eq k) (branch_matches r n bs fs) ≡ None
    behind r n bs low = not_found (branch_matches r n bs fs) (λ m i e. let l = (of_branch r n bs m i).1 in let same : m.0.branch ≡ k.branch = ap (λ (it : KeyValue). it.branch) e in omega (arith, l, same, low))

    -- among those of a rule: the branch at the place of the key has it
    branch_found : (n place : ℕ) (bs : List Elements) (es : Elements) → slice_get bs place ≡ Some es → k.branch ≡ n + place
        → lookup (key_eq k) (branch_matches k.rule n bs fs) ≡ lookup (key_eq k) (map (keyed k.rule k.branch) (matches_of es fs))
    branch_found n place [] es h e = cc
    branch_found n zero (b ∷ bs) es h e =
        let same : b ≡ es = cc in
        let here : n ≡ k.branch = omega (arith, e) in
        found_left (map (keyed k.rule n) (matches_of b fs)) (branch_matches k.rule (n + 1) bs fs) (behind k.rule (n + 1) bs (omega (arith, e)))
        ∙ (ap (λ it. lookup (key_eq k) (map (keyed k.rule it) (matches_of b fs))) here ∙ ap (λ it. lookup (key_eq k) (map (keyed k.rule k.branch) (matches_of it fs))) same)
    branch_found n (suc place) (b ∷ bs) es h e =
        found_right (map (keyed k.rule n) (matches_of b fs)) (branch_matches k.rule (n + 1) bs fs) (apart k.rule n (matches_of b fs) (omega (arith, e)))
        ∙ branch_found (n + 1) place bs es h (omega (arith, e))

    branch_missing : (n place : ℕ) (bs : List Elements) → slice_get bs place ≡ None → k.branch ≡ n + place → lookup (key_eq k) (branch_matches k.rule n bs fs) ≡ None
    branch_missing n place [] h e = refl
    branch_missing n zero (b ∷ bs) h e = cc
    branch_missing n (suc place) (b ∷ bs) h e =
        found_right (map (keyed k.rule n) (matches_of b fs)) (branch_matches k.rule (n + 1) bs fs) (apart k.rule n (matches_of b fs) (omega (arith, e)))
        ∙ branch_missing (n + 1) place bs h (omega (arith, e))

    -- among those of rules: the rule with the number of the key has it
    other_rule : (r : Kept) → k.rule ≢ r.0 → lookup (key_eq k) (rule_matches fs r) ≡ None
    other_rule r other = not_found (rule_matches fs r) (λ m i e. other (ap (λ (it : KeyValue). it.rule) (sym e) ∙ (of_branch r.0 0 r.1 m i).0))

    rules_missing : (rs : Conditions) → ((r : Kept) → In r rs → k.rule ≢ r.0) → lookup (key_eq k) (flat_map (rule_matches fs) rs) ≡ None
    rules_missing [] none = refl
    rules_missing (r ∷ rs) none =
        found_right (rule_matches fs r) (flat_map (rule_matches fs) rs) (other_rule r (none r (inl refl))) ∙ rules_missing rs (λ s i. none s (inr i))

    rule_found : (rs : Conditions) (r : Kept) → HaveOwnNumbers rs → In r rs → k.rule ≡ r.0 → lookup (key_eq k) (flat_map (rule_matches fs) rs) ≡ lookup (key_eq k) (rule_matches fs r)
    rule_found [] r own i e = absurd i
    rule_found (s ∷ rs) r own (inl is) e =
        found_left (rule_matches fs s) (flat_map (rule_matches fs) rs) (rules_missing rs (λ t i f. own.0 t i (sym (ap (λ (it : Kept). it.0) is) ∙ (sym e ∙ f))))
        ∙ ap (λ (it : Kept). lookup (key_eq k) (rule_matches fs it)) (sym is)
    rule_found (s ∷ rs) r own (inr i) e =
        found_right (rule_matches fs s) (flat_map (rule_matches fs) rs) (other_rule s (λ f. own.0 r i (sym f ∙ e))) ∙ rule_found rs r own.1 i e

    -- the variables of the match with the key: those of its branch, and none where there is no such rule or branch
    pub env_found : (rs : Conditions) (bs : List Elements) (es : Elements) → HaveOwnNumbers rs → In (k.rule, bs) rs → slice_get bs k.branch ≡ Some es
        → bindings_of (record { rules = rs; facts = fs }) k ≡ option_map_or (λ env. env) (lookup (key_eq k) (map (keyed k.rule k.branch) (matches_of es fs))) no_bindings
    unfolding bindings_of all_matches
    env_found rs bs es own i h =
        ap (λ o. option_map_or (λ env. env) o no_bindings)
        (rule_found rs (k.rule, bs) own i refl ∙ branch_found 0 k.branch bs es h (omega arith))

    pub no_branch : (rs : Conditions) (bs : List Elements) → HaveOwnNumbers rs → In (k.rule, bs) rs → slice_get bs k.branch ≡ None
        → bindings_of (record { rules = rs; facts = fs }) k ≡ no_bindings
    unfolding bindings_of all_matches
    no_branch rs bs own i h =
        ap (λ o. option_map_or (λ env. env) o no_bindings)
        (rule_found rs (k.rule, bs) own i refl ∙ branch_missing 0 k.branch bs h (omega arith))

    pub no_rule : (rs : Conditions) → ((r : Kept) → In r rs → k.rule ≢ r.0) → bindings_of (record { rules = rs; facts = fs }) k ≡ no_bindings
    unfolding bindings_of all_matches
    no_rule rs none = ap (λ o. option_map_or (λ env. env) o no_bindings) (rules_missing rs none)
