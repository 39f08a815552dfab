-- What is kept for a branch, where other words say the same.
use Rattle.std.proofs.Common.{◌≡◌, ◌≤◌, ℕ, suc, false, List, [], ◌∷◌, None, Option, Some, arith, refl, subst}
use Rattle.std.proofs.lemmas.List.Elements.{All-cons}
use Rattle.cb_branch.proofs.Begun.{leads, widths}
use Rattle.cb_branch.proofs.Matched.{lists_stay}
use Rattle.cb_branch.specs.Branches.{DifferBy, HasAlpha, IsBranchOver, branch_elements}
use Rattle.cb_branch.specs.Patterns.{shape_tests}
use Rattle.cb_branch.specs.declared.branch.Branch.{Branch}
use Rattle.cb_branch.proofs.Fills.{facts_stay}
use Rattle.cb_branch.specs.Alphas.{AlphaUse, Facts, HasUse, alpha_use, join_asked}
use Rattle.cb_facts.specs.FactLists.{IndexedFacts}
use Rattle.cb_facts.specs.Facts.{FactValue}
use Rattle.cb_fit.specs.Shapes.{is_selected}
use Rattle.cb_flat.proofs.Joins.{joins_within}
use Rattle.cb_flat.proofs.Untaken.{matches_stay}
use Rattle.cb_flat.specs.Taking.{NoneTakes, takes}
use Rattle.cb_matches.specs.Matches.{matches_of}
use Rattle.cb_matches.specs.Order.{IsRising, WaysRise}
use Rattle.cb_matches.specs.Probes.{branch_probes}
use Rattle.cb_nodes.proofs.Facts.{indices_of}
use Rattle.cb_nodes.specs.Flat.{branch_nodes, widths_of}
use Rattle.cb_nodes.specs.Lists.{branch_lists}
use Rattle.cb_nodes.specs.Patterns.{Unselected}
use Rattle.cb_branch.specs.Nodes.{flat_node, flat_nodes}
use Rattle.cb_branch.specs.declared.node.Node.{Node}
use Rattle.cb_branch.specs.declared.node.Node.TheVariants as kept
use Rattle.cb_rules.specs.Elements.{Elements}
use Rattle.cb_token_lists.specs.Keeping.{Rests}
use Rattle.cb_token_lists.specs.Partials.{partial_at}

-- other facts under the same numbers
pub facts_over : {T : Type 0} (facts facts' : Facts) (fs : IndexedFacts) (b : Branch T) → IsBranchOver facts fs b
    → ((k : ℕ) (u : AlphaUse) → HasAlpha b k u → (n : ℕ) → facts u.alpha n ≡ facts' u.alpha n) → IsBranchOver facts' fs b
facts_over facts facts' fs b over same =
    let ls = branch_lists (flat_nodes b.nodes.items) fs in
    record {
      planned = over.planned;
      long = over.long;
      rest = over.rest;
      ready = facts_stay b.sources.items b.nodes.items (widths_of (flat_nodes b.nodes.items)) (widths b over.planned) (leads b over.planned) b.lists.items facts facts' ls ls same (λ j. refl) over.ready;
    }

module _ {T : Type 0} (f : ℕ × FactValue) where
  one_takes : (n : Node T) → ((u : AlphaUse) → alpha_use n ≡ Some u → is_selected u.pattern f.1 ≡ false) → takes f (flat_node n) ≡ false
  one_takes (kept.Join alpha node) none = none (record { pattern = node.asked.pattern; alpha = alpha; join = join_asked node.join node.asked.fields.items }) refl
  one_takes (kept.Test from test) none = refl
  one_takes (kept.Group width node) none = refl
  one_takes (kept.Lone alpha node) none = none (record { pattern = node.pattern; alpha = alpha; join = None }) refl
  one_takes (kept.Lookup alpha node) none = none (record { pattern = node.pattern; alpha = alpha; join = Some (node.join, node.fields.items) }) refl

  pub none_takes : (nodes : List (Node T)) → ((k : ℕ) (u : AlphaUse) → HasUse nodes k u → is_selected u.pattern f.1 ≡ false) → NoneTakes f (flat_nodes nodes)
  none_takes [] none = λ k d l. absurd (omega (arith, l))
  none_takes (n ∷ nodes) none =
      All-cons (λ m. takes f m ≡ false) (flat_node n) (flat_nodes nodes) (one_takes n (λ u e. none 0 u e)) (none_takes nodes (λ k u e. none (suc k) u e))

-- facts more or fewer that no pattern takes
module _ {T : Type 0} (unselected : Unselected) (facts : Facts) (fs fs' : IndexedFacts) (f : ℕ × FactValue) (b : Branch T) (differ : DifferBy f fs fs')
    (none : (k : ℕ) (u : AlphaUse) → HasAlpha b k u → is_selected u.pattern f.1 ≡ false) (over : IsBranchOver facts fs b) where
  same_lists : (k : ℕ) → branch_lists (flat_nodes b.nodes.items) fs k ≡ branch_lists (flat_nodes b.nodes.items) fs' k
  same_lists k = lists_stay unselected f fs fs' (flat_nodes b.nodes.items) (none_takes f b.nodes.items none) differ k

  pub untaken_over : IsBranchOver facts fs' b
  untaken_over = record {
    planned = over.planned;
    long = over.long;
    rest = record {
      each = λ j m is. subst (λ ms. Rests (partial_at b.sources.items b.lists.items j) m ms) (same_lists j) (over.rest.each j m is);
      rooted = over.rest.rooted;
    };
    ready = facts_stay b.sources.items b.nodes.items (widths_of (flat_nodes b.nodes.items)) (widths b over.planned) (leads b over.planned) b.lists.items facts facts
        (branch_lists (flat_nodes b.nodes.items) fs) (branch_lists (flat_nodes b.nodes.items) fs') (λ k u h n. refl) same_lists over.ready;
  }

  pub untaken_matches : WaysRise → IsRising fs → IsRising fs' → matches_of (branch_elements b) fs ≡ matches_of (branch_elements b) fs'
  untaken_matches rise rising rising' =
      matches_stay rise (branch_elements b) fs fs' (flat_nodes b.nodes.items) (indices_of fs rising) (indices_of fs' rising') over.planned.nodes same_lists

-- the bound has room for a test of each pattern
pub tests_within : WaysRise → (added : Option FactValue) (fs fs' : IndexedFacts) (es : Elements) → IsRising fs → IsRising fs' → shape_tests added es ≤ branch_probes added fs fs' es
tests_within rise None fs fs' es rising rising' = omega arith
tests_within rise (Some f) fs fs' es rising rising' =
    let most = joins_within rise es fs fs' (branch_nodes es) (indices_of fs rising) (indices_of fs' rising') refl f in
    omega (arith, most)
