-- The nodes of elements, while they are made one element after another.
use Rattle.std.specs.Prelude.{◌≡◌, ◌≤◌, ◌+◌, ℕ, List, [], ◌∷◌, ◌++◌, length, if◌then◌else◌}
use Rattle.std.specs.List.{All}
use Rattle.cb_branch.specs.Internal.Bounds.{AreSame}
use Rattle.cb_branch.specs.Nodes.{IsPlannedNode, flat_node, flat_nodes}
use Rattle.cb_branch.specs.declared.node.Node.{Node}
use Rattle.cb_exprs.specs.Terms.{Term}
use Rattle.cb_nodes.specs.Flat.{FlatNode, alone, flat_all, grouping, joining, last_list, testing, tests_first}
use Rattle.cb_branch.specs.declared.planning.End.{End}
use Rattle.cb_rules.specs.Elements.{Element, Elements, element}
use Rattle.cb_scopes.specs.Scopes.{Scope, scope_of}

-- a node to which these tests belong too, if it is a pattern's
abbrev pub node_with : List Term → FlatNode → FlatNode
node_with ts (joining from x p us) = joining from x p (us ++ ts)
node_with ts (testing from t) = testing from t
node_with ts (grouping from inner positive width) = grouping from inner positive width
node_with ts (alone from p positive) = alone from p positive

-- nodes, where they belong to the last one
abbrev pub last_tested : List Term → List FlatNode → List FlatNode
last_tested ts [] = []
last_tested ts (n ∷ []) = node_with ts n ∷ []
last_tested ts (n ∷ m ∷ ns) = n ∷ last_tested ts (m ∷ ns)

-- the nodes that there are in the end, where elements follow behind these nodes
abbrev pub nodes_with : List FlatNode → End → Elements → List FlatNode
nodes_with ns end es = (if end.is_pattern then last_tested (tests_first es) ns else ns) ++ flat_all end.is_pattern es end.list (length ns + 1) end.width

-- and the number of the last list
abbrev pub last_with : List FlatNode → End → Elements → ℕ
last_with ns end es = last_list end.is_pattern es end.list (length ns + 1)

-- one element further: whatever follows, the nodes and the last list are the same in the end
pub record IsFurther (ns ns' : List FlatNode) (end end' : End) (e : Element) : Type 0 where
  pub nodes : (es : Elements) → nodes_with ns' end' es ≡ nodes_with ns end (element e es)
  pub last : (es : Elements) → last_with ns' end' es ≡ last_with ns end (element e es)

-- the list before a node
abbrev pub list_before : FlatNode → ℕ
list_before (joining from x p ts) = from
list_before (testing from t) = from
list_before (grouping from inner positive width) = from
list_before (alone from p positive) = from

-- the lists that were there are there, and have the same scopes
pub record KeepsScopes (ns ns' : List FlatNode) : Type 0 where
  pub longer : length ns ≤ length ns'
  pub same : (k : ℕ) → k ≤ length ns → scope_of ns' k ≡ scope_of ns k

module _ {T : Type 0} where
  -- the nodes can be filled, and each goes on from a list that is there
  pub record ArePlanned (nodes : List (Node T)) : Type 0 where
    pub each : All (IsPlannedNode (scope_of (flat_nodes nodes))) nodes
    pub behind : All (λ (node : Node T). list_before (flat_node node) ≤ length nodes) nodes

  -- so it is, and the elements end at a list that is there, where just these variables have values
  pub record StandsAt (nodes : List (Node T)) (end : End) (bound : Scope) : Type 0 where
    pub planned : ArePlanned nodes
    pub list : end.list ≤ length nodes
    pub names : AreSame bound (scope_of (flat_nodes nodes) end.list)
