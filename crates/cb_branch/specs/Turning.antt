-- A change of the nodes of a branch.
use Rattle.std.specs.Prelude.{◌≡◌, ◌≤◌, ◌↔◌, ◌⊎◌, ℕ, suc, Bool, List, [], Some, length, set, slice_get}
use Rattle.cb_alpha.specs.AlphaMemories.{AlphaMemoryValue}
use Rattle.cb_beta.specs.BetaMemories.{BetaMemoryValue}
use Rattle.cb_branch.specs.Alphas.{HasTurned, HasUse, AlphaUse, alpha_use, live_facts, were_facts}
use Rattle.cb_branch.specs.Ready.{AreNodesReady, IsNodeReady}
use Rattle.cb_facts.specs.FactLists.{IndexedFacts}
use Rattle.cb_flat.specs.Sources.{source_of, sources_of}
use Rattle.cb_list_changes.specs.Halfway.{AreHalfway, IsStepped}
use Rattle.cb_list_changes.specs.Resting.{AgreeTo, AreResting, IsPut}
use Rattle.cb_matches.specs.Chains.{In}
use Rattle.cb_matches.specs.Matches.{Partial}
use Rattle.cb_nodes.specs.Flat.{AreLists, AreWidths, FlatNode, IsWell, Lists, grouping, node_list}
use Rattle.cb_nodes.specs.Lists.{HaveParts}
use Rattle.cb_branch.specs.Nodes.{IsPrepared, flat_node, flat_nodes}
use Rattle.cb_branch.specs.declared.node.Node.{Node}
use Rattle.cb_scopes.specs.Scopes.{HasValuesOf, Scope, scope_of}
use Rattle.cb_token_lists.specs.Partials.{LeadsTo, SourceValue}

-- what is inside a group goes on from what is before it
abbrev pub LeadsWithin : List SourceValue → FlatNode → Type 0
LeadsWithin sources n = (from inner width : ℕ) (positive : Bool) → n ≡ grouping from inner positive width → LeadsTo sources from inner

-- the partial matches of a list have so many parts before a change, and after it
pub record AreWide (ws : ℕ → ℕ) (old new : Lists) (k : ℕ) : Type 0 where
  pub was : (j : ℕ) → j ≤ k → HaveParts (ws j) (old j)
  pub is : (j : ℕ) → j ≤ k → HaveParts (ws j) (new j)

module _ {T : Type 0} where
  -- the node is the same but for what it keeps
  pub record IsSameNode (node node' : Node T) : Type 0 where
    pub flat : flat_node node' ≡ flat_node node
    pub uses : alpha_use node' ≡ alpha_use node
    pub prepared : (scopes : ℕ → Scope) → IsPrepared scopes node → IsPrepared scopes node'

  -- what is worked out from the patterns of the nodes is theirs
  abbrev pub ArePrepared : List (Node T) → Type 0
  ArePrepared nodes = (k : ℕ) (n : Node T) → slice_get nodes k ≡ Some n → IsPrepared (scope_of (flat_nodes nodes)) n

  -- before a change of the node at place k: the lists were `before` when the change began, and are `now`; the node reads others, which
  -- are the same up to its own
  pub record IsNodeBefore (alphas : List AlphaMemoryValue) (sources : List SourceValue) (before now read : List BetaMemoryValue) (fs fs' : IndexedFacts) (old new : Lists) (k : ℕ)
      (node : Node T) (own : BetaMemoryValue) : Type 0 where
    pub rest : AreResting sources before old
    pub halfway : AreHalfway sources before now old new k
    pub agree : AgreeTo k now read
    pub source : slice_get sources k ≡ Some (source_of (flat_node node))
    pub behind : slice_get now (suc k) ≡ Some own
    pub ready : IsNodeReady (were_facts alphas) sources before old own node
    pub turned : (u : AlphaUse) → alpha_use node ≡ Some u → HasTurned alphas fs fs' u
    pub widths : ℕ → ℕ
    pub well : IsWell k (flat_node node) widths
    pub wide : AreWide widths old new k
    pub leads : LeadsWithin sources (flat_node node)
    pub scopes : ℕ → Scope
    pub prepared : IsPrepared scopes node
    pub scoped : (j : ℕ) → j ≤ k → (m : Partial) → In m (old j) ⊎ In m (new j) → HasValuesOf (scopes j) m

  -- and after it
  pub record IsNodeAfter (alphas : List AlphaMemoryValue) (sources : List SourceValue) (read : List BetaMemoryValue) (fs fs' : IndexedFacts) (old new : Lists) (node node' : Node T)
      (own own' : BetaMemoryValue) : Type 0 where
    pub step : (from : BetaMemoryValue) → slice_get read (source_of (flat_node node)).from ≡ Some from
        → IsStepped sources read (source_of (flat_node node)) from own own' (node_list (flat_node node) fs old) (node_list (flat_node node) fs' new)
    pub ready : IsNodeReady (live_facts alphas) sources read new own' node'

  -- and after it, where the node's list is the first of these
  pub record IsFirstAfter (alphas : List AlphaMemoryValue) (sources : List SourceValue) (read : List BetaMemoryValue) (fs fs' : IndexedFacts) (old new : Lists) (node node' : Node T)
      (own : BetaMemoryValue) (lists lists' : List BetaMemoryValue) : Type 0 where
    pub own_now : BetaMemoryValue
    pub put : lists' ≡ set lists 0 own_now
    pub after : IsNodeAfter alphas sources read fs fs' old new node node' own own_now

  -- the lists behind such a node are put in their places: one more has turned
  pub record IsNodeDone (alphas : List AlphaMemoryValue) (sources : List SourceValue) (before lists lists' : List BetaMemoryValue) (old new : Lists) (k : ℕ) (node' : Node T) : Type 0 where
    pub own : BetaMemoryValue
    pub put : IsPut lists lists' (suc k) own
    pub halfway : AreHalfway sources before lists' old new (suc k)
    pub ready : IsNodeReady (live_facts alphas) sources lists' new own node'

  -- the nodes are the same but for what they keep
  pub record AreSameNodes (nodes nodes' : List (Node T)) : Type 0 where
    pub flat : flat_nodes nodes' ≡ flat_nodes nodes
    pub uses : (k : ℕ) (u : AlphaUse) → HasUse nodes k u ↔ HasUse nodes' k u
    pub prepared : ArePrepared nodes → ArePrepared nodes'

  -- before a change of all nodes: the list before the first of them has turned already
  pub record AreNodesBefore (alphas : List AlphaMemoryValue) (sources : List SourceValue) (before lists : List BetaMemoryValue) (fs fs' : IndexedFacts) (first first' : List Partial)
      (old new : Lists) (nodes : List (Node T)) : Type 0 where
    pub rest : AreResting sources before old
    pub begun : AreHalfway sources before lists old new 0
    pub long : length lists ≡ suc (length nodes)
    pub sources_are : sources ≡ sources_of (flat_nodes nodes)
    pub were : AreLists (flat_nodes nodes) fs first old
    pub are : AreLists (flat_nodes nodes) fs' first' new
    pub widths : ℕ → ℕ
    pub well : AreWidths (flat_nodes nodes) widths
    pub wide : AreWide widths old new (length nodes)
    pub leads : (k : ℕ) (n : FlatNode) → slice_get (flat_nodes nodes) k ≡ Some n → LeadsWithin sources n
    pub ready : AreNodesReady (were_facts alphas) sources before old nodes
    pub prepared : ArePrepared nodes
    pub unbound : (m : Partial) → In m first ⊎ In m first' → HasValuesOf [] m
    pub turned : (k : ℕ) (u : AlphaUse) → HasUse nodes k u → HasTurned alphas fs fs' u

  -- and after it: all lists have turned, and the nodes are ready for what is there
  pub record AreNodesAfter (alphas : List AlphaMemoryValue) (sources : List SourceValue) (before lists : List BetaMemoryValue) (old new : Lists) (nodes : List (Node T)) : Type 0 where
    pub halfway : AreHalfway sources before lists old new (length nodes)
    pub long : length lists ≡ suc (length nodes)
    pub ready : AreNodesReady (live_facts alphas) sources lists new nodes
