use Rattle.std.proofs.Common.{subst, sym}
use Rattle.cb_branch.proofs.JoinKind.{join_same}
use Rattle.cb_branch.proofs.LookupKind.{lookup_back, lookup_same}
use Rattle.cb_branch.specs.Turning.{IsSameNode}
use Rattle.cb_group_node.specs.Nodes.{IsGroupReady}
use Rattle.cb_branch.specs.Nodes.{IsPrepared, no_tokens}
use Rattle.cb_branch.specs.declared.node.Node.{Node}
use Rattle.cb_branch.specs.declared.node.Node.TheVariants as kept
use Rattle.cb_token_lists.specs.Partials.{Meets, partial_at}
use Rattle.cb_branch.proofs.clearing.clear_node.Goals as goal

pub returns-in-Join-clause-same : goal.returns-in-Join-clause-same
returns-in-Join-clause-same g c =
    subst (λ (n : Node g.row.T.Denot). IsSameNode n (kept.Join c.in-Join.alpha c.clear.new.self)) (sym c.in-Join.is) (join_same c.in-Join.alpha c.in-Join.node c.clear.new.self c.clear.ensures.same)

pub returns-in-Join-clause-cleared : goal.returns-in-Join-clause-cleared
returns-in-Join-clause-cleared g c scopes prepared facts sources lists ls before is =
    let p = subst (λ (n : Node g.row.T.Denot). IsPrepared scopes n) c.in-Join.is prepared in
    c.clear.ensures.ready (partial_at sources lists c.clear.new.self.from) (facts c.in-Join.alpha) p.0

pub returns-in-Group-clause-cleared : goal.returns-in-Group-clause-cleared
returns-in-Group-clause-cleared g c scopes prepared facts sources lists ls before within is inside =
    let node = c.in-Group.node in
    let node' = c.clear-in-Group.new.self in
    let e = c.clear-in-Group.ensures in
    subst (λ f. IsGroupReady node' (λ g' i. Meets sources lists f g' node'.inner i) (partial_at sources lists node'.from) (λ number. ⊥) (λ number. ⊥) (ls node'.inner) no_tokens) (sym e.from)
    (subst (λ n. IsGroupReady node' (λ g' i. Meets sources lists node.from g' n i) (partial_at sources lists node'.from) (λ number. ⊥) (λ number. ⊥) (ls node'.inner) no_tokens) (sym e.inner)
    (e.ready sources lists (partial_at sources lists node'.from) (ls node'.inner)))

pub returns-in-Lone-clause-cleared : goal.returns-in-Lone-clause-cleared
returns-in-Lone-clause-cleared g c scopes prepared facts sources lists ls before is =
    let p = subst (λ (n : Node g.row.T.Denot). IsPrepared scopes n) c.in-Lone.is prepared in
    c.clear-in-Lone.ensures.ready (facts c.in-Lone.alpha) p

pub returns-in-Lookup-clause-same : goal.returns-in-Lookup-clause-same
returns-in-Lookup-clause-same g c =
    subst (λ (n : Node g.row.T.Denot). IsSameNode n (kept.Lookup c.in-Lookup.alpha c.clear-in-Lookup.new.self)) (sym c.in-Lookup.is)
    (lookup_same c.in-Lookup.alpha c.in-Lookup.node c.clear-in-Lookup.new.self c.clear-in-Lookup.ensures.same)

pub returns-in-Lookup-clause-cleared : goal.returns-in-Lookup-clause-cleared
returns-in-Lookup-clause-cleared g c scopes prepared facts sources lists ls names before looked is =
    let node = c.in-Lookup.node in
    let node' = c.clear-in-Lookup.new.self in
    let e = c.clear-in-Lookup.ensures in
    e.ready names (partial_at sources lists node'.from) (facts c.in-Lookup.alpha) (lookup_back names node node' e.same looked)
