-- A node that has been changed, by what its own change says.
use Rattle.std.proofs.Common.{◌≡◌, ◌≤◌, ◌<◌, ◌+◌, ℕ, suc, List, None, Option, Some, arith, length, refl, slice_get, subst}
use Rattle.std.proofs.lemmas.Option.{get_or_from_slice_get}
use Rattle.cb_alpha.specs.AlphaMemories.{AlphaMemoryValue}
use Rattle.cb_alpha.specs.Turning.{came_in}
use Rattle.cb_alpha_network.specs.Networks.{MemoryValues, memory_in, no_memory}
use Rattle.cb_beta.specs.BetaMemories.{BetaMemoryValue}
use Rattle.cb_branch.proofs.GroupKind.{group_after, group_before}
use Rattle.cb_branch.proofs.JoinKind.{join_after, join_before}
use Rattle.cb_branch.proofs.LoneKind.{lone_after, lone_before}
use Rattle.cb_branch.proofs.LookupKind.{lookup_after, lookup_before}
use Rattle.cb_branch.proofs.NodeProbes.{join_within}
use Rattle.cb_branch.proofs.Relied.{list_there}
use Rattle.cb_branch.proofs.TestKind.{test_after, test_before}
use Rattle.cb_branch.specs.Alphas.{AlphaUse, TakesAdded, alpha_use, join_asked}
use Rattle.cb_branch.specs.Turning.{IsNodeAfter, IsNodeBefore}
use Rattle.cb_exprs.specs.Terms.{term_of}
use Rattle.cb_exprs.specs.declared.expr.Expr.{Expr}
use Rattle.cb_facts.specs.FactLists.{IndexedFacts}
use Rattle.cb_facts.specs.Facts.{FactValue}
use Rattle.cb_flat.specs.Joined.{flat_joins_of}
use Rattle.cb_group_node.specs.Nodes.{IsAfterGroup, IsBeforeGroup}
use Rattle.cb_group_node.specs.declared.node.GroupNode.{GroupNode}
use Rattle.cb_join_node.specs.Bounds.{join_probes}
use Rattle.cb_join_node.specs.Nodes.{AsksTheSame, IsAfter, IsBefore, added_fact}
use Rattle.cb_join_node.specs.declared.node.JoinNode.{JoinNode}
use Rattle.cb_lone_node.specs.LoneNodes.{IsAfterLone, IsBeforeLone}
use Rattle.cb_lone_node.specs.declared.node.LoneNode.{LoneNode}
use Rattle.cb_lookup_node.specs.LookupNodes.{AsksTheSame as AsksForTheSame, IsAfterLookup, IsBeforeLookup}
use Rattle.cb_lookup_node.specs.declared.node.LookupNode.{LookupNode}
use Rattle.cb_matches.specs.Matches.{Partial}
use Rattle.cb_nodes.specs.Flat.{Lists}
use Rattle.cb_branch.specs.Nodes.{flat_node}
use Rattle.cb_branch.specs.declared.node.Node.{Node}
use Rattle.cb_branch.specs.declared.node.Node.TheVariants as kept
use Rattle.cb_scopes.specs.Scopes.{Scope}
use Rattle.cb_test_node.specs.Tests.{IsAfter as IsAfterTest, IsBefore as IsBeforeTest}
use Rattle.cb_token_lists.specs.Keeping.{KeepsTokens}
use Rattle.cb_token_lists.specs.Partials.{AreBelow, Meets, SourceValue, partial_at}

module _ {T : Type 0} (alphas : MemoryValues) (sources : List SourceValue) (read : List BetaMemoryValue) (own : BetaMemoryValue) where
  -- wherever the node's turn comes, it and its tokens become these
  abbrev pub Changes : Node T → Node T → BetaMemoryValue → Type 0
  Changes node node' own' = (before now : List BetaMemoryValue) (fs fs' : IndexedFacts) (old new : Lists) (k : ℕ) → IsNodeBefore alphas sources before now read fs fs' old new k node own
      → IsNodeAfter alphas sources read fs fs' old new node node' own own'

  -- the meter goes from t to t' by no more than the node's part of the bound
  abbrev pub Pays : Node T → ℕ → ℕ → Type 0
  Pays node t t' = (before now : List BetaMemoryValue) (fs fs' : IndexedFacts) (old new : Lists) (k : ℕ) (added : Option FactValue)
      → IsNodeBefore alphas sources before now read fs fs' old new k node own → ((u : AlphaUse) → alpha_use node ≡ Some u → TakesAdded alphas added u)
      → t' ≤ t + flat_joins_of added fs' old new (flat_node node)

  module _ (alpha : ℕ) (node : JoinNode T) (a : AlphaMemoryValue) (memory : slice_get alphas alpha ≡ Some a) where
    abbrev JoinsBefore : BetaMemoryValue → IndexedFacts → IndexedFacts → List Partial → List Partial → Type 0
    JoinsBefore before fs fs' old new = IsBefore node (partial_at sources read node.from) before a own fs fs' old new

    pub join_changed : (node' : JoinNode T) (own' : BetaMemoryValue) → AsksTheSame node node'
        → ((before : BetaMemoryValue) (fs fs' : IndexedFacts) (old new : List Partial) → slice_get read node.from ≡ Some before → JoinsBefore before fs fs' old new
        → IsAfter node' (partial_at sources read node.from) before a own' fs fs' old new)
        → ((before : BetaMemoryValue) (fs fs' : IndexedFacts) (old new : List Partial) → slice_get read node.from ≡ Some before → JoinsBefore before fs fs' old new → KeepsTokens own own')
        → Changes (kept.Join alpha node) (kept.Join alpha node') own'
    join_changed node' own' same after keeps before now fs fs' old new k b =
        let w : node.from < suc k = b.well in
        let m = list_there alphas sources before now read fs fs' old new k (kept.Join alpha node) own b node.from (omega (arith, w)) in
        let first = join_before alphas sources before now read fs fs' old new k alpha node own m.0 a b memory m.1 in
        join_after alphas sources before now read fs fs' old new k alpha node own m.0 a b memory m.1 node' own' same
        (after m.0 fs fs' (old node.from) (new node.from) m.1 first) (keeps m.0 fs fs' (old node.from) (new node.from) m.1 first)

    pub join_pays : (t t' : ℕ)
        → ((before : BetaMemoryValue) (fs fs' : IndexedFacts) (old new : List Partial) → slice_get read node.from ≡ Some before → JoinsBefore before fs fs' old new
        → t' ≤ t + join_probes node.asked.pattern (added_fact a) fs' old new)
        → Pays (kept.Join alpha node) t t'
    join_pays t t' pays before now fs fs' old new k added b takes =
        let w : node.from < suc k = b.well in
        let m = list_there alphas sources before now read fs fs' old new k (kept.Join alpha node) own b node.from (omega (arith, w)) in
        let first = join_before alphas sources before now read fs fs' old new k alpha node own m.0 a b memory m.1 in
        let l = pays m.0 fs fs' (old node.from) (new node.from) m.1 first in
        let same : memory_in alphas alpha ≡ a = get_or_from_slice_get alphas alpha a no_memory memory in
        let took = takes (record { pattern = node.asked.pattern; alpha = alpha; join = join_asked node.join node.asked.fields.items }) refl in
        let most = join_within node.asked.pattern a added fs' (old node.from) (new node.from)
        (subst (λ it. (n : ℕ) (f : ℕ × FactValue) → came_in it n ≡ Some f → added ≡ Some f.1) same took) in
        omega (arith, l, most)

  pub test_changed : (from : ℕ) (test : Expr) (own' : BetaMemoryValue)
      → ((before : BetaMemoryValue) (old new : List Partial) → slice_get read from ≡ Some before → IsBeforeTest (term_of test) (partial_at sources read from) before own old new
      → IsAfterTest (term_of test) (partial_at sources read from) before own' old new)
      → KeepsTokens own own' → Changes (kept.Test from test) (kept.Test from test) own'
  test_changed from test own' after keeps before now fs fs' old new k b =
      let w : from < suc k = b.well in
      let m = list_there alphas sources before now read fs fs' old new k (kept.Test from test) own b from (omega (arith, w)) in
      let first = test_before {T = T} alphas sources before now read fs fs' old new k from test own m.0 b m.1 in
      test_after alphas sources before now read fs fs' old new k from test own m.0 b m.1 own' (after m.0 (old from) (new from) m.1 first) keeps

  pub group_changed : (width : ℕ) (node node' : GroupNode) (own' : BetaMemoryValue) → node'.from ≡ node.from → node'.inner ≡ node.inner → node'.positive ≡ node.positive
      → ((before within : BetaMemoryValue) (width : ℕ) (old new begun begun' : List Partial) → AreBelow sources → slice_get read node.from ≡ Some before → slice_get read node.inner ≡ Some within
      → IsBeforeGroup node (λ g i. Meets sources read node.from g node.inner i) (partial_at sources read node.from) (partial_at sources read node.inner) before within width own old new begun begun'
      → IsAfterGroup node' (λ g i. Meets sources read node.from g node.inner i) (partial_at sources read node.from) before within own' old new begun begun')
      → KeepsTokens own own' → Changes (kept.Group width node) (kept.Group width node') own'
  group_changed width node node' own' same_from same_inner same_positive after keeps before now fs fs' old new k b =
      let this : Node T = kept.Group width node in
      let w : node.from < suc k = b.well.0 in
      let v : node.inner < suc k = b.well.1 in
      let m = list_there alphas sources before now read fs fs' old new k this own b node.from (omega (arith, w)) in
      let n = list_there alphas sources before now read fs fs' old new k this own b node.inner (omega (arith, v)) in
      let first = group_before {T = T} alphas sources before now read fs fs' old new k width node own m.0 n.0 b m.1 n.1 in
      group_after alphas sources before now read fs fs' old new k width node own m.0 n.0 b m.1 n.1 node' own' same_from same_inner same_positive
      (after m.0 n.0 (b.widths node.from) (old node.from) (new node.from) (old node.inner) (new node.inner) b.rest.rooted.below m.1 n.1 first) keeps

  pub lone_changed : (alpha : ℕ) (node : LoneNode T) (a : AlphaMemoryValue) → slice_get alphas alpha ≡ Some a → (node' : LoneNode T) (own' : BetaMemoryValue)
      → node'.from ≡ node.from → node'.positive ≡ node.positive → node'.pattern ≡ node.pattern
      → ((before : BetaMemoryValue) (fs fs' : IndexedFacts) (old new : List Partial) → slice_get read node.from ≡ Some before
      → IsBeforeLone node (partial_at sources read node.from) before a own fs fs' old new → IsAfterLone node' (partial_at sources read node.from) before a own' fs fs' old new)
      → KeepsTokens own own' → Changes (kept.Lone alpha node) (kept.Lone alpha node') own'
  lone_changed alpha node a memory node' own' same_from same_positive same_pattern after keeps before now fs fs' old new k b =
      let w : node.from < suc k = b.well in
      let m = list_there alphas sources before now read fs fs' old new k (kept.Lone alpha node) own b node.from (omega (arith, w)) in
      let first = lone_before alphas sources before now read fs fs' old new k alpha node own m.0 a b memory m.1 in
      lone_after alphas sources before now read fs fs' old new k alpha node own m.0 a b memory m.1 node' own' same_from same_positive same_pattern
      (after m.0 fs fs' (old node.from) (new node.from) m.1 first) keeps

  pub lookup_changed : (alpha : ℕ) (node : LookupNode T) (a : AlphaMemoryValue) → slice_get alphas alpha ≡ Some a → (node' : LookupNode T) (own' : BetaMemoryValue) → AsksForTheSame node node'
      → ((names : Scope) (before : BetaMemoryValue) (fs fs' : IndexedFacts) (old new : List Partial) → slice_get read node.from ≡ Some before
      → IsBeforeLookup node names (partial_at sources read node.from) before a own fs fs' old new → IsAfterLookup node' names (partial_at sources read node.from) before a own' fs fs' old new)
      → KeepsTokens own own' → Changes (kept.Lookup alpha node) (kept.Lookup alpha node') own'
  lookup_changed alpha node a memory node' own' same after keeps before now fs fs' old new k b =
      let w : node.from < suc k = b.well in
      let m = list_there alphas sources before now read fs fs' old new k (kept.Lookup alpha node) own b node.from (omega (arith, w)) in
      let first = lookup_before alphas sources before now read fs fs' old new k alpha node own m.0 a b memory m.1 in
      lookup_after alphas sources before now read fs fs' old new k alpha node own m.0 a b memory m.1 node' own' same
      (after (b.scopes node.from) m.0 fs fs' (old node.from) (new node.from) m.1 first) keeps

  -- where there is no alpha memory, no turn comes
  pub never_join : (alpha : ℕ) (node : JoinNode T) (node' : Node T) (own' : BetaMemoryValue) → (alpha < length alphas → ⊥) → Changes (kept.Join alpha node) node' own'
  never_join alpha node node' own' none before now fs fs' old new k b =
      absurd (none (b.turned (record { pattern = node.asked.pattern; alpha = alpha; join = join_asked node.join node.asked.fields.items }) refl).0)

  pub never_lone : (alpha : ℕ) (node : LoneNode T) (node' : Node T) (own' : BetaMemoryValue) → (alpha < length alphas → ⊥) → Changes (kept.Lone alpha node) node' own'
  never_lone alpha node node' own' none before now fs fs' old new k b = absurd (none (b.turned (record { pattern = node.pattern; alpha = alpha; join = None }) refl).0)

  pub never_lookup : (alpha : ℕ) (node : LookupNode T) (node' : Node T) (own' : BetaMemoryValue) → (alpha < length alphas → ⊥) → Changes (kept.Lookup alpha node) node' own'
  never_lookup alpha node node' own' none before now fs fs' old new k b =
      absurd (none (b.turned (record { pattern = node.pattern; alpha = alpha; join = Some (node.join, node.fields.items) }) refl).0)
