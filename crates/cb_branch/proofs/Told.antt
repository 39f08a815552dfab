-- What a change of a branch leads to, tells and pays.
use Rattle.std.proofs.Common.{◌≡◌, ◌∙◌, ◌+◌, ◌≤◌, ℕ, suc, List, [], ◌∷◌, None, Option, Some, ap, arith, length, map, refl, subst, sym}
use Rattle.cb_alpha_network.specs.Networks.{MemoryValues}
use Rattle.cb_beta.specs.BetaMemories.{BetaMemoryValue}
use Rattle.cb_branch.proofs.Matched.{last_is_matches}
use Rattle.cb_branch.specs.Branches.{CanBeFilled, IsBranchOver, branch_elements}
use Rattle.cb_branch.specs.Internal.{IsTurned}
use Rattle.cb_branch.specs.Patterns.{shape_tests}
use Rattle.cb_branch.specs.declared.branch.Branch.{Branch}
use Rattle.cb_branch.specs.Alphas.{live_facts}
use Rattle.cb_branch.specs.Ready.{AreNodesReady}
use Rattle.cb_facts.specs.FactLists.{IndexedFacts}
use Rattle.cb_facts.specs.Facts.{FactValue}
use Rattle.cb_flat.proofs.Joins.{joins_within, only_joins_within}
use Rattle.cb_flat.specs.Joined.{flat_joins}
use Rattle.cb_flat.specs.Taking.{pattern_count}
use Rattle.cb_list_changes.specs.Resting.{AreResting}
use Rattle.cb_matches.specs.Changes.{come_of}
use Rattle.cb_matches.specs.Keys.{KeyValue}
use Rattle.cb_matches.specs.Order.{IsRising, WaysRise}
use Rattle.cb_matches.specs.Probes.{branch_probes}
use Rattle.cb_matches.specs.declared.delta.Delta.{Delta}
use Rattle.cb_nodes.proofs.Facts.{indices_of}
use Rattle.cb_nodes.specs.Flat.{FlatNode, Lists, branch_nodes}
use Rattle.cb_nodes.specs.Lists.{branch_lists}
use Rattle.cb_branch.specs.Nodes.{flat_nodes}
use Rattle.cb_branch.specs.declared.node.Node.{Node}
use Rattle.cb_rule_keys.specs.Keys.{Tells, key_of, keys_in_branch}
use Rattle.cb_rules.specs.Elements.{Elements}

-- a branch of these parts has turned
pub turned_branch : {T : Type 0} (alphas : MemoryValues) (new : Lists) (b : Branch T) (nodes : List (Node T)) (lists : List BetaMemoryValue) → b.nodes.items ≡ nodes → b.lists.items ≡ lists
    → length lists ≡ suc (length nodes) → AreResting b.sources.items lists new → AreNodesReady (live_facts alphas) b.sources.items lists new nodes → IsTurned alphas new b
turned_branch {T} alphas new b nodes lists nodes_are lists_are long rest ready = record {
  long = ap length lists_are ∙ (long ∙ ap (λ (it : List (Node T)). suc (length it)) (sym nodes_are));
  rest = subst (λ it. AreResting b.sources.items it new) (sym lists_are) rest;
  ready = subst (λ it. AreNodesReady (live_facts alphas) b.sources.items it new b.nodes.items) (sym lists_are)
      (subst (λ (it : List (Node T)). AreNodesReady (live_facts alphas) b.sources.items lists new it) (sym nodes_are) ready);
}

-- what is kept is right after the change
module _ {T : Type 0} (alphas : MemoryValues) (fs : IndexedFacts) (b b' : Branch T) (planned : CanBeFilled b) (planned' : CanBeFilled b')
    (same : branch_elements b' ≡ branch_elements b) where
  flat_same : flat_nodes b'.nodes.items ≡ flat_nodes b.nodes.items
  flat_same = planned'.nodes ∙ (ap branch_nodes same ∙ sym planned.nodes)

  pub over_of : IsTurned alphas (branch_lists (flat_nodes b.nodes.items) fs) b' → IsBranchOver (live_facts alphas) fs b'
  over_of t = record {
    planned = planned';
    long = t.long;
    rest = subst (λ (it : List FlatNode). AreResting b'.sources.items b'.lists.items (branch_lists it fs)) (sym flat_same) t.rest;
    ready = subst (λ (it : List FlatNode). AreNodesReady (live_facts alphas) b'.sources.items b'.lists.items (branch_lists it fs) b'.nodes.items) (sym flat_same) t.ready;
  }

-- the last lists before and after are the matches, whose keys are told
pub told_matches : {T : Type 0} (rule number : ℕ) (fs fs' : IndexedFacts) (b : Branch T) (planned : CanBeFilled b) (delta delta' : Delta) → WaysRise → IsRising fs → IsRising fs'
    → Tells delta delta' (map (key_of rule number) (branch_lists (flat_nodes b.nodes.items) fs b.last)) (map (key_of rule number) (branch_lists (flat_nodes b.nodes.items) fs' b.last))
    → Tells delta delta' (keys_in_branch rule number (branch_elements b) fs) (keys_in_branch rule number (branch_elements b) fs')
told_matches rule number fs fs' b planned delta delta' rise rising rising' told =
    subst (λ ms. Tells delta delta' (map (key_of rule number) ms) (keys_in_branch rule number (branch_elements b) fs')) (last_is_matches b planned rise fs rising)
    (subst (λ ms. Tells delta delta' (map (key_of rule number) (branch_lists (flat_nodes b.nodes.items) fs b.last)) (map (key_of rule number) ms)) (last_is_matches b planned rise fs' rising') told)

-- of no keys before, all come
pub all_come : (ks : List KeyValue) → come_of [] ks ≡ ks
all_come [] = refl
all_come (k ∷ ks) = ap (λ it. k ∷ it) (all_come ks)

-- what the nodes pay, and a test of each pattern where a fact is added, is within the bound
pub joins_paid : WaysRise → (added : Option FactValue) (fs fs' : IndexedFacts) (es : Elements) (ns : List FlatNode) → IsRising fs → IsRising fs' → ns ≡ branch_nodes es
    → flat_joins added fs' (branch_lists ns fs) (branch_lists ns fs') ns + shape_tests added es ≤ branch_probes added fs fs' es
joins_paid rise None fs fs' es ns rising rising' are =
    let most = only_joins_within rise es fs fs' ns (indices_of fs rising) (indices_of fs' rising') are in
    omega (arith, most)
joins_paid rise (Some f) fs fs' es ns rising rising' are =
    let most = joins_within rise es fs fs' ns (indices_of fs rising) (indices_of fs' rising') are f in
    let count = ap pattern_count are in
    omega (arith, most, count)
