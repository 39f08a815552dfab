-- What the nodes of a branch are ready for.
use Rattle.std.specs.Prelude.{◌≡◌, ℕ, suc, List, Some, slice_get}
use Rattle.cb_beta.specs.BetaMemories.{BetaMemoryValue}
use Rattle.cb_branch.specs.Alphas.{Facts}
use Rattle.cb_exprs.specs.Terms.{term_of}
use Rattle.cb_group_node.specs.Nodes.{IsGroupReady}
use Rattle.cb_join_node.specs.Nodes.{IsReady}
use Rattle.cb_lone_node.specs.LoneNodes.{IsLoneReady}
use Rattle.cb_lookup_node.specs.LookupNodes.{IsLookup, IsLookupReady}
use Rattle.cb_nodes.specs.Flat.{Lists}
use Rattle.cb_branch.specs.Nodes.{no_tokens}
use Rattle.cb_branch.specs.declared.node.Node.{Node}
use Rattle.cb_branch.specs.declared.node.Node.TheVariants as kept
use Rattle.cb_scopes.specs.Scopes.{Scope}
use Rattle.cb_test_node.specs.Tests.{ArePassed}
use Rattle.cb_token_lists.specs.Growth.{AreTokens}
use Rattle.cb_token_lists.specs.Partials.{Meets, SourceValue, partial_at}
use Rattle.cb_token_lists.specs.Turns.{IsThere}

module _ {T : Type 0} where
  -- the node is ready for such numbers of the lists before it, and its tokens are those that it makes of them and of these facts
  abbrev pub IsNodeReadyFor : (BetaMemoryValue → ℕ → Type 0) → Facts → List SourceValue → List BetaMemoryValue → Lists → BetaMemoryValue → Node T → Type 0
  IsNodeReadyFor There facts sources lists ls own (kept.Join alpha node) = (before : BetaMemoryValue) → slice_get lists node.from ≡ Some before
      → IsReady node (partial_at sources lists node.from) (There before) (facts alpha) own
  IsNodeReadyFor There facts sources lists ls own (kept.Test from test) = (before : BetaMemoryValue) → slice_get lists from ≡ Some before
      → AreTokens own (ArePassed (term_of test) (partial_at sources lists from) (There before))
  IsNodeReadyFor There facts sources lists ls own (kept.Group width node) = (before within : BetaMemoryValue)
      → slice_get lists node.from ≡ Some before → slice_get lists node.inner ≡ Some within
      → IsGroupReady node (λ g i. Meets sources lists node.from g node.inner i) (partial_at sources lists node.from) (There before) (There within) (ls node.inner) own
  IsNodeReadyFor There facts sources lists ls own (kept.Lone alpha node) = (before : BetaMemoryValue) → slice_get lists node.from ≡ Some before
      → IsLoneReady node (There before) (facts alpha) own
  IsNodeReadyFor There facts sources lists ls own (kept.Lookup alpha node) = (names : Scope) (before : BetaMemoryValue) → IsLookup names node → slice_get lists node.from ≡ Some before
      → IsLookupReady node names (partial_at sources lists node.from) (There before) (facts alpha) own

  -- it is ready where nothing is before it, whatever the facts are
  abbrev pub IsNodeCleared : Node T → Type 0
  IsNodeCleared node = (facts : Facts) (sources : List SourceValue) (lists : List BetaMemoryValue) (ls : Lists) → IsNodeReadyFor (λ before number. ⊥) facts sources lists ls no_tokens node

  -- it is ready for what is there
  abbrev pub IsNodeReady : Facts → List SourceValue → List BetaMemoryValue → Lists → BetaMemoryValue → Node T → Type 0
  IsNodeReady = IsNodeReadyFor IsThere

  -- each of several is
  abbrev pub AreNodesReady : Facts → List SourceValue → List BetaMemoryValue → Lists → List (Node T) → Type 0
  AreNodesReady facts sources lists ls nodes = (k : ℕ) (n : Node T) (own : BetaMemoryValue) → slice_get nodes k ≡ Some n → slice_get lists (suc k) ≡ Some own
      → IsNodeReady facts sources lists ls own n

  abbrev pub AreNodesCleared : List (Node T) → Type 0
  AreNodesCleared nodes = (k : ℕ) (n : Node T) → slice_get nodes k ≡ Some n → IsNodeCleared n
