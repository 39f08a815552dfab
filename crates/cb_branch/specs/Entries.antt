-- The patterns of a branch in the alpha network.
use Rattle.std.specs.Prelude.{◌≡◌, ◌≤◌, ◌+◌, ℕ, List, Some, slice_get}
use Rattle.cb_alpha.specs.Turning.{HasJoin}
use Rattle.cb_alpha_network.specs.Networks.{AlphaNetworkValue, AreAlphas, AreAtRest, IsShapeOf, KeepsShapes, memory_at, use_count}
use Rattle.cb_alpha_network.specs.declared.node_place.NodePlace.{NodePlace}
use Rattle.cb_branch.specs.Nodes.{IsPrepared, IsReadyForNothing, flat_node, flat_nodes}
use Rattle.cb_branch.specs.declared.node.Node.{Node}
use Rattle.cb_branch.specs.declared.node.Node.TheVariants as kept
use Rattle.cb_constraints.specs.PatternValues.{PatternValue}
use Rattle.cb_facts.specs.FactLists.{IndexedFacts}
use Rattle.cb_join_node.specs.Nodes.{FindsFacts}
use Rattle.cb_scopes.specs.Scopes.{Scope}

-- the place of a node, by the numbers of its rule and of its branch
abbrev pub node_at : ℕ → ℕ → ℕ → NodePlace
node_at rule branch node = record { rule = rule; branch = branch; node = node }

-- at most so many patterns more are entered, and those that were are still: the memories are at rest, and right over these facts if
-- they were
pub record GainsPatterns (fs : IndexedFacts) (patterns : ℕ) (old new : AlphaNetworkValue) : Type 0 where
  pub stay : KeepsShapes old new
  pub rest : AreAtRest new.memories
  pub alphas : AreAlphas old fs → AreAlphas new fs
  pub count : use_count new ≤ use_count old + patterns

-- each node that isn't of this branch of this rule uses its shape still, and the memory of that is as it was
abbrev pub KeepsShapesElsewhere : ℕ → ℕ → AlphaNetworkValue → AlphaNetworkValue → Type 0
KeepsShapesElsewhere rule branch old new =
    (n : ℕ) (p : PatternValue) (place : NodePlace) → IsShapeOf old n p place → (place.rule ≡ rule → place.branch ≡ branch → ⊥)
    → IsShapeOf new n p place × (memory_at new n ≡ memory_at old n)

module _ {T : Type 0} where
  -- the pattern of a node stands in the network for the node at this place, under the number that the node has, and so does its join, if it
  -- has one
  abbrev pub IsNodeEntered : AlphaNetworkValue → NodePlace → Node T → Type 0
  IsNodeEntered v place (kept.Join alpha node) = IsShapeOf v alpha node.asked.pattern place × FindsFacts (memory_at v alpha) node.join node.asked.fields.items
  IsNodeEntered v place (kept.Test from test) = Unit {0}
  IsNodeEntered v place (kept.Group width node) = Unit {0}
  IsNodeEntered v place (kept.Lone alpha node) = IsShapeOf v alpha node.pattern place
  IsNodeEntered v place (kept.Lookup alpha node) = IsShapeOf v alpha node.pattern place × HasJoin (memory_at v alpha) node.join node.fields.items

  -- the same of all nodes of a branch
  abbrev pub AreNodesEntered : AlphaNetworkValue → ℕ → ℕ → List (Node T) → Type 0
  AreNodesEntered v rule branch nodes = (k : ℕ) (n : Node T) → slice_get nodes k ≡ Some n → IsNodeEntered v (node_at rule branch k) n

  -- the node is the same but for its numbers in the network
  pub record IsRenumbered (node node' : Node T) : Type 0 where
    pub flat : flat_node node' ≡ flat_node node
    pub prepared : (scopes : ℕ → Scope) → IsPrepared scopes node → IsPrepared scopes node'
    pub ready : IsReadyForNothing node → IsReadyForNothing node'

  -- so is each
  pub record AreRenumbered (nodes nodes' : List (Node T)) : Type 0 where
    pub flat : flat_nodes nodes' ≡ flat_nodes nodes
    pub each : (k : ℕ) (n' : Node T) → slice_get nodes' k ≡ Some n' → (n : Node T) × (slice_get nodes k ≡ Some n) × IsRenumbered n n'
