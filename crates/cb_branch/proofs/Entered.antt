-- The patterns of a branch in the alpha network.
use Rattle.std.proofs.Common.{◌≡◌, ◌∙◌, ℕ, List, None, Some, ap, refl, slice_get, subst, sym}
use Rattle.std.specs.Option.{option_and_then}
use Rattle.cb_alpha_network.specs.Networks.{AlphaNetworkValue, memory_at}
use Rattle.cb_alpha_network.specs.declared.node_place.NodePlace.{NodePlace}
use Rattle.cb_branch.specs.Branches.{CanBeFilled, IsUsed, branch_elements}
use Rattle.cb_branch.specs.Patterns.{branch_patterns}
use Rattle.cb_branch.specs.declared.branch.Branch.{Branch}
use Rattle.cb_branch.proofs.Fills.{use_at}
use Rattle.cb_branch.proofs.JoinAsked.{found_join, join_found}
use Rattle.cb_branch.specs.Alphas.{AlphaUse, HasUse, alpha_use, join_asked}
use Rattle.cb_branch.specs.Turning.{ArePrepared}
use Rattle.cb_branch.specs.Entries.{AreNodesEntered, AreRenumbered, IsNodeEntered, node_at}
use Rattle.cb_flat.specs.Sources.{sources_of}
use Rattle.cb_flat.specs.Taking.{pattern_count}
use Rattle.cb_list_changes.proofs.Places.{by_option, one_some}
use Rattle.cb_nodes.specs.Flat.{FlatNode, branch_last, branch_nodes}
use Rattle.cb_branch.specs.Nodes.{IsPrepared, flat_nodes}
use Rattle.cb_branch.specs.declared.node.Node.{Node}
use Rattle.cb_branch.specs.declared.node.Node.TheVariants as kept
use Rattle.cb_scopes.specs.Scopes.{scope_of}

module _ {T : Type 0} (v : AlphaNetworkValue) where
  -- a node that is entered has what it has of the network there
  used_of : (place : NodePlace) (n : Node T) (u : AlphaUse) → alpha_use n ≡ Some u → IsNodeEntered v place n → IsUsed v place u
  used_of place (kept.Join alpha node) u e h = subst (IsUsed v place) (one_some e) (record { shape = h.0; joins = found_join (memory_at v alpha) node.join node.asked.fields.items h.1 })
  used_of place (kept.Test from test) u e h = let no : None ≡ Some u = e in absurd (cc)
  used_of place (kept.Group width node) u e h = let no : None ≡ Some u = e in absurd (cc)
  used_of place (kept.Lone alpha node) u e h = subst (IsUsed v place) (one_some e) (record { shape = h; joins = tt })
  used_of place (kept.Lookup alpha node) u e h = subst (IsUsed v place) (one_some e) (record { shape = h.0; joins = h.1 })

  of_used : (place : NodePlace) (n : Node T) → ((u : AlphaUse) → alpha_use n ≡ Some u → IsUsed v place u) → IsNodeEntered v place n
  of_used place (kept.Join alpha node) used = let it = used (record { pattern = node.asked.pattern; alpha = alpha; join = join_asked node.join node.asked.fields.items }) refl in (it.shape, join_found (memory_at v alpha) node.join node.asked.fields.items it.joins)
  of_used place (kept.Test from test) used = tt
  of_used place (kept.Group width node) used = tt
  of_used place (kept.Lone alpha node) used = (used (record { pattern = node.pattern; alpha = alpha; join = None }) refl).shape
  of_used place (kept.Lookup alpha node) used = let it = used (record { pattern = node.pattern; alpha = alpha; join = Some (node.join, node.fields.items) }) refl in (it.shape, it.joins)

  pub are_used : (rule number : ℕ) (nodes : List (Node T)) → AreNodesEntered v rule number nodes → (k : ℕ) (u : AlphaUse) → HasUse nodes k u → IsUsed v (node_at rule number k) u
  are_used rule number nodes entered k u h =
      by_option (slice_get nodes k)
      (λ none. let no : None ≡ Some u = ap (option_and_then alpha_use) (sym none) ∙ h in absurd (cc))
      (λ n is. used_of (node_at rule number k) n u (ap (option_and_then alpha_use) (sym is) ∙ h) (entered k n is))

  pub used_are : (rule number : ℕ) (nodes : List (Node T)) → ((k : ℕ) (u : AlphaUse) → HasUse nodes k u → IsUsed v (node_at rule number k) u) → AreNodesEntered v rule number nodes
  used_are rule number nodes used k n is = of_used (node_at rule number k) n (λ u e. used k u (use_at nodes k n u is e))

-- a branch whose nodes got other numbers in the network can be filled
pub renumbered : {T : Type 0} (b b' : Branch T) (nodes : List (Node T)) → CanBeFilled b → AreRenumbered b.nodes.items nodes → b'.nodes.items ≡ nodes → branch_elements b' ≡ branch_elements b
    → b'.sources.items ≡ b.sources.items → b'.last ≡ b.last → CanBeFilled b'
renumbered {T} b b' nodes planned same nodes_are elements sources last =
    let flat : flat_nodes b'.nodes.items ≡ flat_nodes b.nodes.items = ap flat_nodes nodes_are ∙ same.flat in
    record {
      nodes = flat ∙ (planned.nodes ∙ ap branch_nodes (sym elements));
      sources = sources ∙ (planned.sources ∙ ap sources_of (sym flat));
      last = last ∙ (planned.last ∙ ap branch_last (sym elements));
      prepared = subst (λ (it : List (Node T)). ArePrepared it) (sym nodes_are) (λ k n' is. let n = same.each k n' is in
          subst (λ (ns : List FlatNode). IsPrepared (scope_of ns) n') (sym same.flat) (n.2.prepared (scope_of (flat_nodes b.nodes.items)) (planned.prepared k n.0 n.1)));
    }

-- how many patterns it has
pub patterns_are : {T : Type 0} (b : Branch T) → CanBeFilled b → pattern_count (flat_nodes b.nodes.items) ≡ branch_patterns (branch_elements b)
patterns_are b planned = ap pattern_count planned.nodes
