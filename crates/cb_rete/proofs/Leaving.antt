-- The branches of a rule that leave the alpha network one after another.
use Rattle.std.proofs.Common.{◌≡◌, ◌∙◌, ◌<◌, ◌≤◌, ◌+◌, ℕ, List, [], ◌∷◌, Some, ap, arith, drop, length, refl}
use Rattle.std.specs.List.{slice_get}
use Rattle.cb_alpha_network.specs.Networks.{AlphaNetworkValue, IsShapeOf, memory_at, use_count}
use Rattle.cb_alpha_network.specs.declared.node_place.NodePlace.{NodePlace}
use Rattle.cb_branch.proofs.EnteredNodes.{facts_same}
use Rattle.cb_branch.specs.Branches.{IsEntered, IsLeft, branch_elements}
use Rattle.cb_branch.specs.Entries.{node_at}
use Rattle.cb_branch.specs.Patterns.{branch_patterns}
use Rattle.cb_branch.specs.declared.branch.Branch.{Branch}
use Rattle.cb_constraints.specs.PatternValues.{PatternValue}
use Rattle.cb_rete.proofs.Entered.{used_stays}
use Rattle.cb_rete.specs.Entering.{IsRuleLeft}
use Rattle.cb_rete.specs.Rules.{AreBranchesEntered, kept_branches}
use Rattle.cb_rule_keys.proofs.Branches.{dropped_at, got_mapped, none_at, none_mapped}
use Rattle.cb_rule_keys.specs.Sums.{branches_sum}
use Rattle.cb_rules.specs.Elements.{Elements}
use Rattle.std.proofs.lemmas.Option.{slice_get_past}

-- those before a place have left, and all others are as they were
pub record AreLeftTo (rule at : ℕ) (bs : List Elements) (old new : AlphaNetworkValue) : Type 0 where
  pub others : (n : ℕ) (p : PatternValue) (place : NodePlace) → IsShapeOf old n p place → (place.rule ≡ rule → place.branch < at → ⊥) → IsShapeOf new n p place × (memory_at new n ≡ memory_at old n)
  pub count : use_count new + branches_sum branch_patterns bs ≡ use_count old + branches_sum branch_patterns (drop at bs)

pub left_none : (rule : ℕ) (bs : List Elements) (v : AlphaNetworkValue) → AreLeftTo rule 0 bs v v
left_none rule bs v = record { others = λ n p place h apart. (h, refl); count = refl }

module _ {T : Type 0} (rule at : ℕ) (bs : List (Branch T)) (v v' v'' : AlphaNetworkValue) (b : Branch T) (got : slice_get bs at ≡ Some b) (entered : AreBranchesEntered v rule bs)
    (was : AreLeftTo rule at (kept_branches bs) v v') where
  pub still_entered : IsEntered v' rule at b
  still_entered k u h =
      let used = entered at b got k u h in
      let kept = was.others u.alpha u.pattern (node_at rule at k) used.shape (λ e l. absurd (omega (arith, l))) in
      used_stays v v' (node_at rule at k) u used kept.0 (facts_same (memory_at v u.alpha) (memory_at v' u.alpha) kept.1)

  pub left_more : IsLeft rule at (branch_patterns (branch_elements b)) v' v'' → AreLeftTo rule (at + 1) (kept_branches bs) v v''
  left_more left = record {
    others = λ n p place h apart.
        let one = was.others n p place h (λ e l. apart e (omega (arith, l))) in
        let more = left.others n p place one.0 (λ e f. apart e (omega (arith, f))) in
        (more.0, more.1 ∙ one.1);
    count =
        let d : drop at (kept_branches bs) ≡ branch_elements b ∷ drop (at + 1) (kept_branches bs) = dropped_at (kept_branches bs) at (branch_elements b) (got_mapped branch_elements bs at b got) in
        let e = ap (branches_sum branch_patterns) d in
        let before = was.count in
        let gone = left.count in
        omega (arith, e, before, gone);
  }

pub left_all : {T : Type 0} (rule at : ℕ) (bs : List (Branch T)) (v v' : AlphaNetworkValue) → length bs ≤ at → AreLeftTo rule at (kept_branches bs) v v'
    → IsRuleLeft rule (branches_sum branch_patterns (kept_branches bs)) v v'
left_all rule at bs v v' end was = record {
  others = λ n p place h apart. was.others n p place h (λ e l. apart e);
  count =
      let none : drop at (kept_branches bs) ≡ [] = none_at (kept_branches bs) at (none_mapped branch_elements bs at (slice_get_past bs at end)) in
      let e = ap (branches_sum branch_patterns) none in
      let count = was.count in
      omega (arith, e, count);
}
