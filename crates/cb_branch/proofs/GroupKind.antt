-- A change of a group.
use Rattle.std.proofs.Common.{◌≡◌, ◌∙◌, ◌≤◌, ◌<◌, ℕ, suc, Bool, List, None, Some, ap, arith, filter, refl, slice_get, subst, sym}
use Rattle.cb_alpha.specs.AlphaMemories.{AlphaMemoryValue}
use Rattle.cb_beta.specs.BetaMemories.{BetaMemoryValue}
use Rattle.cb_beta.specs.Tokens.{partial_after}
use Rattle.cb_branch.proofs.Relied.{long, met_before, none_come, none_gone, relied, turns}
use Rattle.cb_branch.specs.Turning.{IsNodeAfter, IsNodeBefore, IsSameNode}
use Rattle.cb_facts.specs.FactLists.{IndexedFacts}
use Rattle.cb_group_node.proofs.Staying.{parent_there}
use Rattle.cb_group_node.specs.Nodes.{IsAfterGroup, IsBeforeGroup, IsGroupReady}
use Rattle.cb_group_node.specs.declared.node.GroupNode.{GroupNode}
use Rattle.cb_list_changes.proofs.Places.{one_at}
use Rattle.cb_list_changes.specs.Halfway.{IsStepped}
use Rattle.cb_nodes.specs.Flat.{Lists, grouping}
use Rattle.cb_nodes.specs.Lists.{group_with}
use Rattle.cb_branch.specs.declared.node.Node.{Node}
use Rattle.cb_branch.specs.declared.node.Node.TheVariants as kept
use Rattle.cb_token_lists.specs.Keeping.{KeepsTokens}
use Rattle.cb_token_lists.specs.Partials.{LeadsTo, Meets, SourceValue, partial_at}
use Rattle.cb_token_lists.specs.Turns.{IsThere, Turns}

-- what the node is but for what it keeps
pub group_same : {T : Type 0} (width : ℕ) (node node' : GroupNode) → node'.from ≡ node.from → node'.inner ≡ node.inner → node'.positive ≡ node.positive
    → IsSameNode {T = T} (kept.Group width node) (kept.Group width node')
group_same width node node' same_from same_inner same_positive = record {
  flat = ap (λ n. grouping n node'.inner node'.positive width) same_from
      ∙ (ap (λ n. grouping node.from n node'.positive width) same_inner ∙ ap (λ (it : Bool). grouping node.from node.inner it width) same_positive);
  uses = refl;
  prepared = λ scopes h. h;
}

module _ {T : Type 0} (alphas : List AlphaMemoryValue) (sources : List SourceValue) (before now read : List BetaMemoryValue) (fs fs' : IndexedFacts) (old new : Lists) (k width : ℕ)
    (node : GroupNode) (own m w : BetaMemoryValue) (b : IsNodeBefore {T = T} alphas sources before now read fs fs' old new k (kept.Group width node) own)
    (is : slice_get read node.from ≡ Some m) (inside : slice_get read node.inner ≡ Some w) where
  abbrev this : Node T
  this = kept.Group width node

  abbrev Met : ℕ → ℕ → Type 0
  Met g i = Meets sources read node.from g node.inner i

  pub near : node.from ≤ k
  near = let l : node.from < suc k = b.well.0 in omega (arith, l)

  pub inner_near : node.inner ≤ k
  inner_near = let l : node.inner < suc k = b.well.1 in omega (arith, l)

  leads : LeadsTo sources node.from node.inner
  leads = b.leads node.from node.inner width node.positive refl

  pub group_before : IsBeforeGroup node Met (partial_at sources read node.from) (partial_at sources read node.inner) m w (b.widths node.from) own
      (old node.from) (new node.from) (old node.inner) (new node.inner)
  group_before = record {
    turns = turns alphas sources before now read fs fs' old new k this own b node.from m near is;
    inner_turns = turns alphas sources before now read fs fs' old new k this own b node.inner w inner_near inside;
    long = λ g h. long alphas sources before now read fs fs' old new k this own b node.from m near is g h;
    descend = λ i h. met_before alphas sources before now read fs fs' old new k this own b node.from node.inner i m w near inner_near leads is inside h;
    ready = relied alphas sources before now read fs fs' old new k this own b m w is inside;
    none_gone = none_gone alphas sources before now read fs fs' old new k this own b;
    none_come = none_come alphas sources before now read fs fs' old new k this own b;
  }

  pub group_after : (node' : GroupNode) (own' : BetaMemoryValue) → node'.from ≡ node.from → node'.inner ≡ node.inner → node'.positive ≡ node.positive
      → IsAfterGroup node' Met (partial_at sources read node.from) m w own' (old node.from) (new node.from) (old node.inner) (new node.inner) → KeepsTokens own own'
      → IsNodeAfter alphas sources read fs fs' old new this (kept.Group width node') own own'
  group_after node' own' same_from same_inner same_positive after keeps = record {
    step = λ f at. subst (λ it. IsStepped sources read (record { from = node.from; address = None }) it own own'
        (filter (group_with node.positive (old node.inner)) (old node.from)) (filter (group_with node.positive (new node.inner)) (new node.from)))
        (one_at read node.from m f is at)
        (record {
          turns = subst (λ (it : Bool). Turns (partial_after None own'.tokens (partial_at sources read node.from)) own'
              (filter (group_with it (old node.inner)) (old node.from)) (filter (group_with it (new node.inner)) (new node.from))) same_positive after.turns;
          keeps = keeps;
          parents = λ i t there. parent_there node' Met (partial_at sources read node.from) (IsThere m) (IsThere w) (new node.inner) own' after.ready i t there;
        });
    ready = λ m' w' at within.
        let here : slice_get read node.from ≡ Some m' = ap (slice_get read) (sym same_from) ∙ at in
        let inner_here : slice_get read node.inner ≡ Some w' = ap (slice_get read) (sym same_inner) ∙ within in
        subst (λ f. IsGroupReady node' (λ g i. Meets sources read f g node'.inner i) (partial_at sources read f) (IsThere m') (IsThere w') (new node'.inner) own') (sym same_from)
        (subst (λ n. IsGroupReady node' (λ g i. Meets sources read node.from g n i) (partial_at sources read node.from) (IsThere m') (IsThere w') (new n) own') (sym same_inner)
        (subst (λ it. IsGroupReady node' Met (partial_at sources read node.from) (IsThere it) (IsThere w') (new node.inner) own') (one_at read node.from m m' is here)
        (subst (λ it. IsGroupReady node' Met (partial_at sources read node.from) (IsThere m) (IsThere it) (new node.inner) own') (one_at read node.inner w w' inside inner_here) after.ready)));
  }
