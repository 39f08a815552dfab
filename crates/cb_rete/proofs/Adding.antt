-- A rule that is added.
use Rattle.std.proofs.Common.{◌≡◌, ◌∙◌, ◌++◌, ◌+◌, ◌∷◌, ℕ, List, [], ap, arith, inl, inr, nat_cmp, refl, subst, sym}
use Rattle.std.proofs.lemmas.List.{map-append}
use Rattle.std.specs.BTreeMap.{BTreeMap, insert_entry, values}
use Rattle.cb_alpha_network.specs.Networks.{AlphaNetworkValue}
use Rattle.cb_branch.specs.Branches.{HasAlpha, IsBranchOver}
use Rattle.cb_branch.specs.Alphas.{AlphaUse}
use Rattle.cb_branch.specs.Entries.{GainsPatterns}
use Rattle.cb_branch.specs.Alphas.{Facts, live_facts}
use Rattle.cb_branch.specs.Patterns.{branch_patterns}
use Rattle.cb_branch.specs.declared.branch.Branch.{Branch}
use Rattle.cb_facts.specs.FactLists.{IndexedFacts}
use Rattle.cb_matches.proofs.Lists.{in_either}
use Rattle.cb_matches.specs.Chains.{In}
use Rattle.cb_matches.specs.Changes.{IsAbove}
use Rattle.cb_rete.proofs.Entered.{branches_kept, keeps_all, over_kept}
use Rattle.cb_rete.specs.Rules.{AreBranchesEntered, AreBranchesOver, IsKeeping, kept_rule, kept_rules}
use Rattle.cb_rete.specs.declared.rule.Rule.{Rule}
use Rattle.cb_rule_keys.proofs.Numbered.{named_with, put_above, values_with}
use Rattle.cb_rule_keys.proofs.Sums.{rules_sum_with}
use Rattle.cb_rule_keys.specs.Sums.{branches_sum, rules_sum}
use Rattle.cb_rules.specs.Elements.{Elements}

module _ {T : Type 0} (rules rules' : BTreeMap ℕ (Rule T)) (rule new : Rule T) (same : kept_rule new ≡ kept_rule rule) (above : IsAbove rule.id (kept_rules (values rules)))
    (put : rules'.entries ≡ insert_entry nat_cmp rules.entries new.id new) where
  pub same_number : new.id ≡ rule.id
  same_number = ap (λ (q : ℕ × List Elements). q.0) same

  module _ (v v' : AlphaNetworkValue) (fs : IndexedFacts) (keeping : IsKeeping v fs rules) where
    pub last : rules'.entries ≡ rules.entries ++ (new.id, new) ∷ []
    last = put ∙ put_above kept_rule new.id new rules.entries keeping.named (subst (λ n. IsAbove n (kept_rules (values rules))) (sym same_number) above)

    pub kept_with : kept_rules (values rules') ≡ kept_rules (values rules) ++ kept_rule rule ∷ []
    kept_with = ap kept_rules (values_with kept_rule new.id new rules.entries rules'.entries last)
        ∙ (map-append kept_rule (values rules) (new ∷ []) ∙ ap (λ q. kept_rules (values rules) ++ q ∷ []) same)

    each_with : (P : ℕ × Rule T → Type 0) → ((e : ℕ × Rule T) → In e rules.entries → P e) → P (new.id, new) → (e : ℕ × Rule T) → In e rules'.entries → P e
    each_with P each one e i = elim (in_either e rules.entries ((new.id, new) ∷ []) (subst (In e) last i)) as (λ _. P e) [
      | inl k ↦ each e k
      | inr k ↦ elim k as (λ _. P e) [
        | inl is ↦ subst P (sym is) one
        | inr never ↦ absurd never
      ]
    ]

    pub keeping_with : (stays : (facts facts' : Facts) (fs : IndexedFacts) (b : Branch T) → IsBranchOver facts fs b
        → ((k : ℕ) (u : AlphaUse) → HasAlpha b k u → (n : ℕ) → facts u.alpha n ≡ facts' u.alpha n) → IsBranchOver facts' fs b)
        → GainsPatterns fs (branches_sum branch_patterns (kept_rule rule).1) v v' → AreBranchesOver (live_facts v'.memories) fs new.branches.items → AreBranchesEntered v' new.id new.branches.items → IsKeeping v' fs rules'
    keeping_with stays gains over entered = record {
      named = named_with kept_rule new.id new rules.entries rules'.entries last refl keeping.named;
      alphas = gains.alphas keeping.alphas;
      over = each_with (λ e. AreBranchesOver (live_facts v'.memories) fs e.1.branches.items)
          (λ e i. over_kept stays v v' e.1.id fs e.1.branches.items (keeps_all e.1.id v v' gains.stay) (keeping.entered e i) (keeping.over e i)) over;
      entered = each_with (λ e. AreBranchesEntered v' e.1.id e.1.branches.items)
          (λ e i. branches_kept v v' e.1.id e.1.branches.items (keeps_all e.1.id v v' gains.stay) (keeping.entered e i)) entered;
      count =
          let e = ap (rules_sum branch_patterns) kept_with in
          let f = rules_sum_with branch_patterns (kept_rules (values rules)) (kept_rule rule ∷ []) in
          let l = keeping.count in
          let count = gains.count in
          omega (arith, count, e, f, l);
    }
