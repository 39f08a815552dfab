-- The nodes that are kept for a branch, as nodes of the definitions, and what holds of them before anything is kept.
use Rattle.std.specs.Prelude.{◌≡◌, ℕ, true, List, [], Option, Some, map}
use Rattle.cb_beta.specs.BetaMemories.{BetaMemoryValue}
use Rattle.cb_exprs.specs.Terms.{term_of}
use Rattle.cb_facts.specs.Facts.{FactValue}
use Rattle.cb_fit.specs.StandsAlone.{stands_alone}
use Rattle.cb_group_node.specs.Nodes.{IsGroupReady}
use Rattle.cb_join_node.specs.Nodes.{IsByValues, IsReady, tests_of}
use Rattle.cb_join_node.specs.declared.by_values.ByValues.{ByValues}
use Rattle.cb_lone_node.specs.LoneNodes.{IsLoneReady}
use Rattle.cb_lookup_node.specs.LookupNodes.{IsLookup, IsLookupReady}
use Rattle.cb_matches.specs.Matches.{Partial}
use Rattle.cb_nodes.specs.Flat.{FlatNode, alone, grouping, joining, testing}
use Rattle.cb_nodes.specs.Patterns.{AreJoinFields}
use Rattle.cb_branch.specs.declared.node.Node.{Node}
use Rattle.cb_branch.specs.declared.node.Node.TheVariants as kept
use Rattle.cb_scopes.specs.Scopes.{Scope}
use Rattle.cb_token_lists.specs.Partials.{Meets, SourceValue}

-- a beta memory without tokens
abbrev pub no_tokens : BetaMemoryValue
no_tokens = record { tokens = []; gone = []; come = [] }

module _ {T : Type 0} where
  -- a node as one of the definitions
  abbrev pub flat_node : Node T → FlatNode
  flat_node (kept.Join alpha node) = joining node.from node.asked.address node.asked.pattern (tests_of node.asked)
  flat_node (kept.Test from test) = testing from (term_of test)
  flat_node (kept.Group width node) = grouping node.from node.inner node.positive width
  flat_node (kept.Lone alpha node) = alone node.from node.pattern node.positive
  flat_node (kept.Lookup alpha node) = alone node.from node.pattern node.positive

  -- several
  abbrev pub flat_nodes : List (Node T) → List FlatNode
  flat_nodes nodes = map flat_node nodes

  -- what is worked out from the pattern of a node is the pattern's, where these are the scopes of the lists
  abbrev pub IsPrepared : (ℕ → Scope) → Node T → Type 0
  IsPrepared scopes (kept.Join alpha node) = AreJoinFields node.asked.fields.items node.asked.address node.asked.pattern
      × ((by : ByValues) → node.asked.by_values ≡ Some by → IsByValues (scopes node.from) node.asked by)
  IsPrepared scopes (kept.Test from test) = Unit {0}
  IsPrepared scopes (kept.Group width node) = Unit {0}
  IsPrepared scopes (kept.Lone alpha node) = stands_alone node.pattern ≡ true
  IsPrepared scopes (kept.Lookup alpha node) = IsLookup (scopes node.from) node

  -- the node is ready where nothing is before it, and nothing inside a group, and no token behind it
  abbrev pub IsReadyForNothing : Node T → Type 0
  IsReadyForNothing (kept.Join alpha node) = (at : ℕ → Partial) (facts : ℕ → Option (ℕ × FactValue)) → IsReady node at (λ number. ⊥) facts no_tokens
  IsReadyForNothing (kept.Test from test) = Unit {0}
  IsReadyForNothing (kept.Group width node) = (sources : List SourceValue) (lists : List BetaMemoryValue) (at : ℕ → Partial) (begun : List Partial)
      → IsGroupReady node (λ g i. Meets sources lists node.from g node.inner i) at (λ number. ⊥) (λ number. ⊥) begun no_tokens
  IsReadyForNothing (kept.Lone alpha node) = (facts : ℕ → Option (ℕ × FactValue)) → IsLoneReady node (λ number. ⊥) facts no_tokens
  IsReadyForNothing (kept.Lookup alpha node) = (names : Scope) (at : ℕ → Partial) (facts : ℕ → Option (ℕ × FactValue)) → IsLookup names node
      → IsLookupReady node names at (λ number. ⊥) facts no_tokens

  -- nothing is kept at the node yet, and it can be filled, where these are the scopes of the lists
  pub record IsPlannedNode (scopes : ℕ → Scope) (node : Node T) : Type 0 where
    pub prepared : IsPrepared scopes node
    pub ready : IsReadyForNothing node
