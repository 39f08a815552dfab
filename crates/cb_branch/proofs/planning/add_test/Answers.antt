use Rattle.std.proofs.Common.{length, refl}
use Rattle.cb_exprs.specs.Terms.{term_of}
use Rattle.cb_branch.specs.Nodes.{flat_nodes}
use Rattle.cb_branch.specs.declared.node.Node.TheVariants as kept
use Rattle.cb_nodes.specs.Flat.{testing}
use Rattle.cb_rules.specs.Elements.{test}
use Rattle.cb_scopes.specs.Scopes.{scope_of}
use Rattle.cb_branch.proofs.NodeScopes.{none_keeps, tested_keeps}
use Rattle.cb_branch.proofs.Planned.{folded_further, nodes_pushed, test_further}
use Rattle.cb_branch.proofs.Pushed.{pushed_further, pushed_passes, pushed_scopes, pushed_width}
use Rattle.cb_branch.proofs.Ready.{last_stands, test_planned}
use Rattle.cb_branch.proofs.planning.add_test.Goals as goal

pub returns-then-end-clause-further : goal.returns-then-end-clause-further
returns-then-end-clause-further g c =
    folded_further (flat_nodes c.args.nodes.now.items) (flat_nodes c.add_to_last.new.nodes.items) c.args.end (term_of c.args.condition) c.in_ok-add_to_last.ensures.nodes c.if-end.true

pub returns-then-end-clause-stands : goal.returns-then-end-clause-stands
returns-then-end-clause-stands g c = λ names stands.
    last_stands _ c.args.nodes.now.items c.add_to_last.new.nodes.items c.args.end names c.in_ok-add_to_last.ensures.nodes c.in_ok-add_to_last.ensures.len (c.in_ok-add_to_last.ensures.planned stands.planned) stands

pub returns-then-end-clause-scopes : goal.returns-then-end-clause-scopes
returns-then-end-clause-scopes g c = tested_keeps _ (flat_nodes c.args.nodes.now.items) (flat_nodes c.add_to_last.new.nodes.items) c.in_ok-add_to_last.ensures.nodes

pub returns-clause-further : goal.returns-clause-further
returns-clause-further g c =
    let end = c.args.end in
    let t = term_of c.args.condition in
    let old = c.args.nodes.now.items in
    let new = c.push_behind.new.nodes.items in
    pushed_further old new (kept.Test end.list c.args.condition) end c.push_behind.result c.push_behind.ensures.nodes c.push_behind.ensures.behind (flat_nodes old) (test t)
    (λ pushed long. test_further (flat_nodes old) (flat_nodes new) end (length new) t (nodes_pushed old new (kept.Test end.list c.args.condition) (testing end.list t) pushed refl) long c.if-end.false)

pub returns-clause-width : goal.returns-clause-width
returns-clause-width g c =
    pushed_width c.args.nodes.now.items c.push_behind.new.nodes.items (kept.Test c.args.end.list c.args.condition) c.args.end c.push_behind.result c.push_behind.ensures.nodes c.push_behind.ensures.behind c.requires.width

pub returns-clause-stands : goal.returns-clause-stands
returns-clause-stands g c =
    let end = c.args.end in
    let old = c.args.nodes.now.items in
    pushed_passes old c.push_behind.new.nodes.items (kept.Test end.list c.args.condition) end c.push_behind.result c.push_behind.ensures.nodes c.push_behind.ensures.behind
    (testing end.list (term_of c.args.condition)) refl refl refl (test_planned (scope_of (flat_nodes old)) end.list c.args.condition)

pub returns-clause-scopes : goal.returns-clause-scopes
returns-clause-scopes g c =
    let old = c.args.nodes.now.items in
    pushed_scopes old c.push_behind.new.nodes.items (kept.Test c.args.end.list c.args.condition) c.args.end c.push_behind.result c.push_behind.ensures.nodes c.push_behind.ensures.behind (flat_nodes old) (none_keeps (flat_nodes old))
