-- The last list of a branch is its matches, in their order.
use Rattle.std.proofs.Common.{◌≡◌, ◌∙◌, ◌<◌, ℕ, suc, List, [], ◌∷◌, ap, arith, inl, inr, length, subst, sym}
use Rattle.std.proofs.lemmas.List.{length-map}
use Rattle.cb_branch.specs.Branches.{CanBeFilled, DifferBy, branch_elements}
use Rattle.cb_branch.specs.declared.branch.Branch.{Branch}
use Rattle.cb_facts.specs.FactLists.{IndexedFacts}
use Rattle.cb_facts.specs.Facts.{FactValue}
use Rattle.cb_flat.proofs.InOrder.{sorted_all}
use Rattle.cb_flat.proofs.Untaken.{lists_with}
use Rattle.cb_flat.proofs.Whole.{end_is, end_within}
use Rattle.cb_flat.specs.Taking.{NoneTakes}
use Rattle.cb_matches.specs.Matches.{matches_of, no_parts}
use Rattle.cb_matches.specs.Order.{IsRising, IsSorted, WaysRise}
use Rattle.cb_nodes.proofs.Facts.{indices_of}
use Rattle.cb_nodes.specs.Flat.{FlatNode}
use Rattle.cb_nodes.specs.Lists.{branch_lists}
use Rattle.cb_nodes.specs.Patterns.{Unselected}
use Rattle.cb_branch.specs.Nodes.{flat_node, flat_nodes}
use Rattle.cb_rules.specs.Elements.{Elements}

pub sorted_matches : WaysRise → (es : Elements) (fs : IndexedFacts) → IsRising fs → IsSorted (matches_of es fs)
unfolding matches_of
sorted_matches rise es fs rising = sorted_all rise es fs (no_parts ∷ []) rising (λ z h. absurd h, tt)

module _ {T : Type 0} (b : Branch T) (planned : CanBeFilled b) where
  pub last_within : b.last < suc (length b.nodes.items)
  last_within =
      let l = end_within (branch_elements b) (flat_nodes b.nodes.items) b.last planned.nodes planned.last in
      let long : length (flat_nodes b.nodes.items) ≡ length b.nodes.items = length-map b.nodes.items flat_node in
      omega (arith, l, long)

  pub last_is_matches : WaysRise → (fs : IndexedFacts) → IsRising fs → branch_lists (flat_nodes b.nodes.items) fs b.last ≡ matches_of (branch_elements b) fs
  last_is_matches rise fs rising = end_is rise (branch_elements b) fs (flat_nodes b.nodes.items) b.last (indices_of fs rising) planned.nodes planned.last

  pub last_sorted : WaysRise → (fs : IndexedFacts) → IsRising fs → IsSorted (branch_lists (flat_nodes b.nodes.items) fs b.last)
  last_sorted rise fs rising = subst IsSorted (sym (last_is_matches rise fs rising)) (sorted_matches rise (branch_elements b) fs rising)

-- where no pattern takes the fact by which two lists of facts differ, the lists of partial matches are the same
pub lists_stay : Unselected → (f : ℕ × FactValue) (fs fs' : IndexedFacts) (ns : List FlatNode) → NoneTakes f ns → DifferBy f fs fs' → (k : ℕ) → branch_lists ns fs k ≡ branch_lists ns fs' k
lists_stay unselected f fs fs' ns none (inl d) k = sym (ap (λ it. branch_lists ns it k) d.1 ∙ lists_with unselected f.0 f.1 fs ns none d.0 k)
lists_stay unselected f fs fs' ns none (inr d) k = ap (λ it. branch_lists ns it k) d.1 ∙ lists_with unselected f.0 f.1 fs' ns none d.0 k
