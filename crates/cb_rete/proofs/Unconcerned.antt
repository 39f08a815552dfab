-- Branches and rules of which no place is found.
use Rattle.std.proofs.Common.{◌≡◌, ◌∙◌, ◌<◌, ◌≤◌, ◌+◌, ◌++◌, ℕ, suc, false, List, [], ◌∷◌, Some, ap, ap₂, arith, get_or, length, refl, subst, sym}
use Rattle.std.specs.List.{slice_get}
use Rattle.cb_alpha_network.specs.Networks.{MemoryValues}
use Rattle.cb_alpha_network.specs.declared.node_place.NodePlace.{NodePlace}
use Rattle.cb_branch.specs.Branches.{DifferBy, HasAlpha, IsBranchOver, branch_elements}
use Rattle.cb_branch.specs.Alphas.{AlphaUse}
use Rattle.cb_branch.specs.Entries.{node_at}
use Rattle.cb_branch.specs.Alphas.{Facts}
use Rattle.cb_branch.specs.declared.branch.Branch.{Branch}
use Rattle.cb_facts.specs.FactLists.{IndexedFacts}
use Rattle.cb_facts.specs.Facts.{FactValue}
use Rattle.cb_fit.specs.Shapes.{is_selected}
use Rattle.cb_matches.proofs.Lists.{place_of}
use Rattle.cb_matches.specs.Keys.{KeyValue}
use Rattle.cb_matches.specs.Matches.{matches_of}
use Rattle.cb_matches.specs.Order.{IsRising}
use Rattle.cb_rete.proofs.FoundPlaces.{branch_of, found_at, no_place, rule_of}
use Rattle.cb_rete.proofs.Turning.{unconcerned}
use Rattle.cb_rete.specs.Changing.{IsBranchDone, IsBranchReady, IsRuleDone, IsRuleReady, IsTurn, TurnValue, join_tests}
use Rattle.cb_rete.specs.Found.{AreAllOfRule}
use Rattle.cb_rete.specs.Rules.{kept_branches, kept_rule}
use Rattle.cb_rete.specs.declared.rule.Rule.{Rule}
use Rattle.cb_rule_keys.proofs.Branches.{IsBranchUnconcerned}
use Rattle.cb_rule_keys.proofs.Networks.{branch_keys_more}
use Rattle.cb_rule_keys.proofs.Passed.{IsUnconcerned}
use Rattle.cb_rule_keys.specs.Keys.{branch_keys, keys_in_branch}

-- the keys of branches are the same where those of each are
keys_alike : {T : Type 0} (fs fs' : IndexedFacts) (rule at : ℕ) (bs : List (Branch T)) → ((n : ℕ) (b : Branch T) → slice_get bs n ≡ Some b → keys_in_branch rule (at + n) (branch_elements b) fs ≡ keys_in_branch rule (at + n) (branch_elements b) fs')
    → branch_keys rule at (kept_branches bs) fs ≡ branch_keys rule at (kept_branches bs) fs'
keys_alike fs fs' rule at [] same = refl
keys_alike {T} fs fs' rule at (b ∷ bs) same =
    branch_keys_more rule at (branch_elements b) (kept_branches bs) fs
    ∙ (ap₂ (λ (ks : List KeyValue) (ls : List KeyValue). ks ++ ls)
    (let e : at + 0 ≡ at = omega arith in subst (λ n. keys_in_branch rule n (branch_elements b) fs ≡ keys_in_branch rule n (branch_elements b) fs') e (same 0 b refl))
    (keys_alike fs fs' rule (at + 1) bs (λ n x h. let e : at + suc n ≡ (at + 1) + n = omega arith in
    subst (λ k. keys_in_branch rule k (branch_elements x) fs ≡ keys_in_branch rule k (branch_elements x) fs') e (same (suc n) x h)))
    ∙ sym (branch_keys_more rule at (branch_elements b) (kept_branches bs) fs'))

module _ {T : Type 0} (stays : (facts facts' : Facts) (fs : IndexedFacts) (b : Branch T) → IsBranchOver facts fs b → ((k : ℕ) (u : AlphaUse) → HasAlpha b k u → (n : ℕ) → facts u.alpha n ≡ facts' u.alpha n)
    → IsBranchOver facts' fs b)
    (over : (facts : Facts) (fs fs' : IndexedFacts) (f : ℕ × FactValue) (b : Branch T) → IsRising fs → IsRising fs' → DifferBy f fs fs'
    → ((k : ℕ) (u : AlphaUse) → HasAlpha b k u → is_selected u.pattern f.1 ≡ false) → IsBranchOver facts fs b → IsBranchOver facts fs' b)
    (matches : (facts : Facts) (fs fs' : IndexedFacts) (f : ℕ × FactValue) (b : Branch T) → IsRising fs → IsRising fs' → DifferBy f fs fs'
    → ((k : ℕ) (u : AlphaUse) → HasAlpha b k u → is_selected u.pattern f.1 ≡ false) → IsBranchOver facts fs b → matches_of (branch_elements b) fs ≡ matches_of (branch_elements b) fs')
    (turn : TurnValue) (given : MemoryValues) (found : List NodePlace) (is : IsTurn turn given found) where
  -- a branch that has none of its rule's places
  pub branch_unconcerned : (rule from end : ℕ) → AreAllOfRule found from end rule → (n : ℕ) (b : Branch T) → IsBranchReady turn rule n b
      → ((i : ℕ) → from ≤ i → i < end → branch_of (get_or found i no_place) ≡ n → ⊥)
      → IsBranchUnconcerned branch_elements (IsBranchReady turn rule) (IsBranchDone turn rule) turn.before turn.after (join_tests turn) rule n b
  branch_unconcerned rule from end of n b ready none =
      unconcerned turn given found is rule n b ready stays over matches
      (λ k i. let at = found_at found from end rule of n k i in none at.0 at.1 at.2 (at.3 no_place))

  -- a rule that has none
  pub rule_unconcerned : (r : Rule T) → IsRuleReady turn r → ((i : ℕ) → i < length found → rule_of (get_or found i no_place) ≡ r.id → ⊥)
      → IsUnconcerned kept_rule (IsRuleReady turn) (IsRuleDone turn) turn.before turn.after (join_tests turn) r
  rule_unconcerned r ready none = record {
    is = λ n b h. (each n b h).is;
    keys = keys_alike turn.before turn.after r.id 0 r.branches.items
        (λ n b h. let e : n ≡ 0 + n = omega arith in
        subst (λ k. keys_in_branch r.id k (branch_elements b) turn.before ≡ keys_in_branch r.id k (branch_elements b) turn.after) e (each n b h).keys);
  }
    where
      each : (n : ℕ) (b : Branch T) → slice_get r.branches.items n ≡ Some b → IsBranchUnconcerned branch_elements (IsBranchReady turn r.id) (IsBranchDone turn r.id) turn.before turn.after (join_tests turn) r.id n b
      each n b h =
          unconcerned turn given found is r.id n b (ready n b h) stays over matches
          (λ k i. let at = place_of (node_at r.id n k) found i in none at.0 at.1 (ap rule_of (at.2 no_place)))
