-- The nodes of a branch are whole, and their last list is the matches of the branch.
use Rattle.std.proofs.Common.{◌≡◌, ◌≤◌, ℕ, suc, ◌<◌, List, [], ◌∷◌, length, sym, ◌∙◌, ap, false, subst, arith}
use Rattle.cb_facts.specs.FactLists.{IndexedFacts}
use Rattle.cb_facts.specs.Facts.{FactValue}
use Rattle.cb_flat.proofs.Flat.{branch_lists as lists_made}
use Rattle.cb_flat.proofs.FlatProbes.{branch_probes_within}
use Rattle.cb_flat.proofs.Last.{last_is, start_has_no_parts, start_is_once}
use Rattle.cb_flat.proofs.Named.{last_below, long_flat_all}
use Rattle.cb_flat.proofs.Widths.{branch_widths, lists_are_once, lists_are_wide}
use Rattle.cb_matches.specs.Matches.{matches_of, no_parts}
use Rattle.cb_matches.specs.Order.{IsOnce, WaysRise}
use Rattle.cb_matches.specs.Probes.{branch_probes}
use Rattle.cb_nodes.specs.Flat.{FlatNode, branch_last, branch_nodes, flat_probes, widths_of}
use Rattle.cb_nodes.specs.Lists.{AreWhole, HaveParts, branch_lists}
use Rattle.cb_nodes.specs.Patterns.{HaveIndices}
use Rattle.cb_rules.specs.Elements.{Elements}
use Rattle.std.specs.Prelude.{Option}

-- the nodes of elements are whole
pub whole_nodes : (es : Elements) → AreWhole (branch_nodes es)
whole_nodes es = record { widths = (widths_of (branch_nodes es), branch_widths es); lists = λ fs first. lists_made es fs first }

-- the last list of nodes, where these are those of elements
pub end_is : WaysRise → (es : Elements) (fs : IndexedFacts) (ns : List FlatNode) (last : ℕ) → HaveIndices fs → ns ≡ branch_nodes es → last ≡ branch_last es → branch_lists ns fs last ≡ matches_of es fs
end_is rise es fs ns last indices are l = ap (λ it. branch_lists it fs last) are ∙ (ap (branch_lists (branch_nodes es) fs) l ∙ last_is rise es fs indices)

pub end_within : (es : Elements) (ns : List FlatNode) (last : ℕ) → ns ≡ branch_nodes es → last ≡ branch_last es → last < suc (length ns)
end_within es ns last are l =
    let long : length ns ≡ length (branch_nodes es) = ap length are in
    let all = long_flat_all false es 0 1 0 in
    let most = last_below false es 0 1 (omega (arith)) in
    omega (arith, long, all, most, l)

-- the partial matches of each list are as long as its width, and no two have the same parts
pub branch_wide : (es : Elements) (fs : IndexedFacts) (k : ℕ) → k < suc (length (branch_nodes es)) → HaveParts (widths_of (branch_nodes es) k) (branch_lists (branch_nodes es) fs k)
branch_wide es fs k l =
    lists_are_wide (branch_nodes es) fs (no_parts ∷ []) (branch_lists (branch_nodes es) fs) (widths_of (branch_nodes es)) (branch_widths es) (lists_made es fs (no_parts ∷ [])) start_has_no_parts k l

pub branch_once : WaysRise → (es : Elements) (fs : IndexedFacts) → HaveIndices fs → (k : ℕ) → k < suc (length (branch_nodes es)) → IsOnce (branch_lists (branch_nodes es) fs k)
branch_once rise es fs indices k l =
    lists_are_once rise (branch_nodes es) fs (no_parts ∷ []) (branch_lists (branch_nodes es) fs) (widths_of (branch_nodes es)) indices (branch_widths es) (lists_made es fs (no_parts ∷ [])) start_is_once k l

-- how often a change takes patterns to be tested
pub probes_within : WaysRise → (es : Elements) (fs fs' : IndexedFacts) (ns : List FlatNode) → HaveIndices fs → HaveIndices fs' → ns ≡ branch_nodes es → (added : Option FactValue)
    → flat_probes added fs' (branch_lists ns fs) (branch_lists ns fs') ns ≤ branch_probes added fs fs' es
probes_within rise es fs fs' ns indices indices' are added =
    subst (λ it. flat_probes added fs' (branch_lists it fs) (branch_lists it fs') it ≤ branch_probes added fs fs' es) (sym are) (branch_probes_within rise added es fs fs' indices indices')
