-- A rule that is taken away.
use Rattle.std.proofs.Common.{◌≡◌, ◌∙◌, ℕ, List, Some, None, ap, arith, nat_cmp, subst, sym}
use Rattle.std.specs.BTreeMap.{BTreeMap, is_at}
use Rattle.std.specs.List.Sorted.{IsStrictlySortedBy}
use Rattle.std.specs.Map.{keys_of, lookup, remove_entry, values_of}
use Rattle.cb_alpha_network.specs.Networks.{AlphaNetworkValue, AreAlphas, memory_at}
use Rattle.cb_branch.proofs.EnteredNodes.{facts_same}
use Rattle.cb_branch.specs.Branches.{HasAlpha, IsBranchOver}
use Rattle.cb_branch.specs.Alphas.{AlphaUse}
use Rattle.cb_branch.specs.Alphas.{Facts}
use Rattle.cb_branch.specs.Patterns.{branch_patterns}
use Rattle.cb_branch.specs.declared.branch.Branch.{Branch}
use Rattle.cb_facts.specs.FactLists.{IndexedFacts}
use Rattle.cb_matches.specs.Chains.{In}
use Rattle.cb_rete.proofs.Entered.{KeepsRule, branches_kept, over_kept}
use Rattle.cb_rete.specs.Entering.{IsRuleLeft}
use Rattle.cb_rete.specs.Rules.{IsKeeping, kept_branches, kept_rule, kept_rules}
use Rattle.cb_rete.specs.declared.rule.Rule.{Rule}
use Rattle.cb_rule_keys.proofs.Numbered.{found_in, left_in, left_same, sum_left}
use Rattle.cb_rule_keys.specs.Sums.{branches_sum, rules_sum}

module _ {T : Type 0} (id : ℕ) (rules rules' : BTreeMap ℕ (Rule T)) (sorted : IsStrictlySortedBy nat_cmp (keys_of rules.entries)) (out : rules'.entries ≡ remove_entry (is_at (nat_cmp id)) rules.entries)
    (v : AlphaNetworkValue) (fs : IndexedFacts) (keeping : IsKeeping v fs rules) where
  -- where there is one
  module _ (v' : AlphaNetworkValue) (r : Rule T) (found : lookup (is_at (nat_cmp id)) rules.entries ≡ Some r)
      (left : IsRuleLeft r.id (branches_sum branch_patterns (kept_branches r.branches.items)) v v') where
    other : (e : ℕ × Rule T) → In e rules'.entries → In e rules.entries × KeepsRule e.1.id v v'
    other e i =
        let j = left_in id rules.entries sorted e (subst (In e) out i) in
        let number : e.0 ≡ e.1.id = keeping.named e j.0 in
        let own : id ≡ r.id = keeping.named (id, r) (found_in id rules.entries r found) in (
          j.0,
          λ n p place h at.
              let kept = left.others n p place h (λ is. j.1 (number ∙ (sym at ∙ (is ∙ sym own)))) in
              (kept.0, facts_same (memory_at v n) (memory_at v' n) kept.1),
        )

    pub keeping_without : (stays : (facts facts' : Facts) (fs : IndexedFacts) (b : Branch T) → IsBranchOver facts fs b
        → ((k : ℕ) (u : AlphaUse) → HasAlpha b k u → (n : ℕ) → facts u.alpha n ≡ facts' u.alpha n) → IsBranchOver facts' fs b)
        → AreAlphas v' fs → IsKeeping v' fs rules'
    keeping_without stays alphas = record {
      named = λ e i. keeping.named e (other e i).0;
      alphas = alphas;
      over = λ e i. let o = other e i in over_kept stays v v' e.1.id fs e.1.branches.items o.1 (keeping.entered e o.0) (keeping.over e o.0);
      entered = λ e i. let o = other e i in branches_kept v v' e.1.id e.1.branches.items o.1 (keeping.entered e o.0);
      count =
          let sum = sum_left kept_rule branch_patterns id rules.entries r found in
          let e = ap (λ (es : List (ℕ × Rule T)). rules_sum branch_patterns (kept_rules (values_of es))) out in
          let l = keeping.count in
          let count = left.count in
          omega (arith, sum, e, l, count);
    }

  -- and where there is none
  pub keeping_same : lookup (is_at (nat_cmp id)) rules.entries ≡ None → IsKeeping v fs rules'
  keeping_same absent =
      let same : rules'.entries ≡ rules.entries = out ∙ left_same id rules.entries absent in
      record {
        named = λ e i. keeping.named e (subst (In e) same i);
        alphas = keeping.alphas;
        over = λ e i. keeping.over e (subst (In e) same i);
        entered = λ e i. keeping.entered e (subst (In e) same i);
        count = let e = ap (λ (es : List (ℕ × Rule T)). rules_sum branch_patterns (kept_rules (values_of es))) same in let l = keeping.count in omega (arith, e, l);
      }
