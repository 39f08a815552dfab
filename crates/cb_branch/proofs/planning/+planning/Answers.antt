use Rattle.std.proofs.Common.{◌≡◌, ◌∙◌, ◌+◌, ◌++◌, [], List, ℕ, ap, length, map, option_to_list, refl, rules, subst, sym, take, true}
use Rattle.std.proofs.lemmas.List.{length-map, nil_from_length}
use Rattle.std.specs.Result.{IfOk}
use Rattle.cb_branch.proofs.BoundNames.{cut_all, cut_several}
use Rattle.cb_branch.proofs.KindsOf.{alone_some, looked_some, nested_none}
use Rattle.cb_branch.proofs.NodeScopes.{none_keeps}
use Rattle.cb_branch.proofs.Planned.{alone_further, group_further, nodes_pushed, nothing_follows, of_group, of_pattern, pattern_further}
use Rattle.cb_branch.proofs.Pushed.{always, if_then, pushed_further, pushed_scopes, pushed_stands, pushed_width}
use Rattle.cb_branch.proofs.Ready.{group_flat, group_planned, inner_stands, pattern_stands, push_keeps}
use Rattle.cb_branch.proofs.planning.+planning.Goals as goal
use Rattle.cb_branch.specs.Internal.Plans.{IsFurther, StandsAt, nodes_with}
use Rattle.cb_branch.specs.Internal.ByValues.{IsKind}
use Rattle.cb_branch.specs.Nodes.{flat_node, flat_nodes}
use Rattle.cb_branch.specs.declared.node.Node.TheVariants as kept
use Rattle.cb_fit.specs.Plain.{bound_names}
use Rattle.cb_nodes.specs.Flat.{alone, grouping, joining, lone_pattern}
use Rattle.cb_rules.specs.Elements.{element_of, elements, group, pattern}
use Rattle.cb_scopes.specs.Scopes.{Scope, scope_of}

-- a pattern
pub add_node-returns-in_ok-push-in-Pattern-clause-further : goal.add_node-returns-in_ok-push-in-Pattern-clause-further
add_node-returns-in_ok-push-in-Pattern-clause-further g t c =
    let end = c.args.end in
    let old = c.args.nodes.now.items in
    let new = c.push.new.self.items in
    let n = joining end.list c.in-Pattern.address c.in-Pattern.pattern [] in
    let is : element_of c.args.element ≡ pattern c.in-Pattern.address c.in-Pattern.pattern = ap element_of c.in-Pattern.is ∙ of_pattern _ c.in-Pattern.address c.in-Pattern.pattern in
    let long : c.len.result ≡ length new = search rules in
    subst (IsFurther (flat_nodes old) (flat_nodes new) end (record { list = c.len.result; width = end.width + 1; is_pattern = true })) (sym is)
    (pattern_further (flat_nodes old) (flat_nodes new) end c.len.result c.in-Pattern.address c.in-Pattern.pattern
    (nodes_pushed old new c.in_ok-node-in-Pattern.node n c.in_ok-push-in-Pattern.ensures.items c.in_ok-node-in-Pattern.ensures.node) (long ∙ sym (length-map new flat_node)))

pub add_node-returns-in_ok-push-in-Pattern-clause-stands : goal.add_node-returns-in_ok-push-in-Pattern-clause-stands
add_node-returns-in_ok-push-in-Pattern-clause-stands g t c =
    let end = c.args.end in
    let new = c.push.new.self.items in
    let long : c.len.result ≡ length new = search rules in
    pattern_stands c.args.nodes.now.items new c.in_ok-node-in-Pattern.node end c.len.result (end.width + 1) c.in-Pattern.address c.in-Pattern.pattern c.args.bound.now c.pattern_node.new.bound
    c.in_ok-push-in-Pattern.ensures.items c.in_ok-node-in-Pattern.ensures.node long c.requires.stands c.in_ok-node-in-Pattern.ensures.planned c.in_ok-node-in-Pattern.ensures.bound

pub add_node-returns-in_ok-push-in-Pattern-clause-scopes : goal.add_node-returns-in_ok-push-in-Pattern-clause-scopes
add_node-returns-in_ok-push-in-Pattern-clause-scopes g t c = push_keeps c.args.nodes.now.items c.push.new.self.items c.in_ok-node-in-Pattern.node c.in_ok-push-in-Pattern.ensures.items

pub add_node-returns-in_ok-push-in-Pattern-clause-bound : goal.add_node-returns-in_ok-push-in-Pattern-clause-bound
add_node-returns-in_ok-push-in-Pattern-clause-bound g t c =
    let before = c.args.bound.now in
    ap (λ (it : List (List ℕ)). take (length before) it) c.in_ok-node-in-Pattern.ensures.bound ∙ cut_several (option_to_list c.in-Pattern.address ++ bound_names c.in-Pattern.pattern) before

-- a group
pub add_node-returns-in-Group-clause-further : goal.add_node-returns-in-Group-clause-further
add_node-returns-in-Group-clause-further g t c =
    let inner = elements (map element_of c.in-Group.inner.items) in
    let is : element_of c.args.element ≡ group c.in-Group.positive inner = ap element_of c.in-Group.is ∙ of_group _ c.in-Group.positive c.in-Group.inner in
    subst (λ e. IfOk c.add_group.result (λ behind. IsFurther (flat_nodes c.args.nodes.now.items) (flat_nodes c.add_group.new.nodes.items) c.args.end behind e)) (sym is) c.add_group.ensures.further

-- all of them
pub add_nodes-returns-clause-nodes : goal.add_nodes-returns-clause-nodes
add_nodes-returns-clause-nodes g t c =
    let ns = flat_nodes c.loop-element.nodes.items in
    let end = c.loop-element.end in
    let len : length c.loop-element.element-iterator.rest.items ≡ 0 = search rules in
    let none : c.loop-element.element-iterator.rest.items ≡ [] = nil_from_length _ len in
    sym (nothing_follows ns end) ∙ (ap (λ it. nodes_with ns end (elements (map element_of it))) (sym none) ∙ c.loop-element.invariant.made)

-- a group of one pattern that stands alone
pub add_group-returns-in-Alone-clause-further : goal.add_group-returns-in-Alone-clause-further
add_group-returns-in-Alone-clause-further g t c =
    let end = c.args.end in
    let old = c.args.nodes.now.items in
    let new = c.push_behind.new.nodes.items in
    let inner = elements (map element_of c.args.inner.items) in
    let p = c.only_pattern.result in
    pushed_further old new c.lone_node-node.result end c.push_behind.result c.push_behind.ensures.nodes c.push_behind.ensures.behind (flat_nodes old) (group c.args.positive inner)
    (λ pushed long. alone_further (flat_nodes old) (flat_nodes new) end (length new) c.args.positive inner p c.only_pattern.ensures (nodes_pushed old new c.lone_node-node.result (alone end.list p c.args.positive) pushed c.lone_node-node.ensures.node) long)

pub add_group-returns-in-Alone-clause-width : goal.add_group-returns-in-Alone-clause-width
add_group-returns-in-Alone-clause-width g t c =
    pushed_width c.args.nodes.now.items c.push_behind.new.nodes.items c.lone_node-node.result c.args.end c.push_behind.result c.push_behind.ensures.nodes c.push_behind.ensures.behind c.requires.width

pub add_group-returns-in-Alone-clause-stands : goal.add_group-returns-in-Alone-clause-stands
add_group-returns-in-Alone-clause-stands g t c =
    let end = c.args.end in
    let old = c.args.nodes.now.items in
    pushed_stands old c.push_behind.new.nodes.items c.lone_node-node.result end c.push_behind.result c.push_behind.ensures.nodes c.push_behind.ensures.behind
    (alone end.list c.only_pattern.result c.args.positive) c.args.bound.now c.lone_node-node.ensures.node refl refl c.requires.stands (c.lone_node-node.ensures.planned (scope_of (flat_nodes old)))

pub add_group-returns-in-Alone-clause-scopes : goal.add_group-returns-in-Alone-clause-scopes
add_group-returns-in-Alone-clause-scopes g t c =
    let ns = flat_nodes c.args.nodes.now.items in
    pushed_scopes c.args.nodes.now.items c.push_behind.new.nodes.items c.lone_node-node.result c.args.end c.push_behind.result c.push_behind.ensures.nodes c.push_behind.ensures.behind ns (none_keeps ns)

pub add_group-returns-in-Alone-clause-bound : goal.add_group-returns-in-Alone-clause-bound
add_group-returns-in-Alone-clause-bound g t c = always _ c.push_behind.result (cut_all c.args.bound.now)

-- one of a pattern that is looked up
pub add_group-returns-in_ok-node-in-LookedUp-clause-further : goal.add_group-returns-in_ok-node-in-LookedUp-clause-further
add_group-returns-in_ok-node-in-LookedUp-clause-further g t c =
    let end = c.args.end in
    let old = c.args.nodes.now.items in
    let new = c.push_behind-in-LookedUp.new.nodes.items in
    let inner = elements (map element_of c.args.inner.items) in
    let p = c.only_pattern-pattern.result in
    let node = c.in_ok-node-in-LookedUp.node in
    pushed_further old new node end c.push_behind-in-LookedUp.result c.push_behind-in-LookedUp.ensures.nodes c.push_behind-in-LookedUp.ensures.behind (flat_nodes old) (group c.args.positive inner)
    (λ pushed long. alone_further (flat_nodes old) (flat_nodes new) end (length new) c.args.positive inner p c.only_pattern-pattern.ensures (nodes_pushed old new node (alone end.list p c.args.positive) pushed c.in_ok-node-in-LookedUp.ensures.node) long)

pub add_group-returns-in_ok-node-in-LookedUp-clause-stands : goal.add_group-returns-in_ok-node-in-LookedUp-clause-stands
add_group-returns-in_ok-node-in-LookedUp-clause-stands g t c =
    let end = c.args.end in
    let old = c.args.nodes.now.items in
    pushed_stands old c.push_behind-in-LookedUp.new.nodes.items c.in_ok-node-in-LookedUp.node end c.push_behind-in-LookedUp.result c.push_behind-in-LookedUp.ensures.nodes c.push_behind-in-LookedUp.ensures.behind
    (alone end.list c.only_pattern-pattern.result c.args.positive) c.args.bound.now c.in_ok-node-in-LookedUp.ensures.node refl refl c.requires.stands
    (c.in_ok-node-in-LookedUp.ensures.planned (scope_of (flat_nodes old)) c.requires.stands.names)

pub add_group-returns-in_ok-node-in-LookedUp-clause-scopes : goal.add_group-returns-in_ok-node-in-LookedUp-clause-scopes
add_group-returns-in_ok-node-in-LookedUp-clause-scopes g t c =
    let ns = flat_nodes c.args.nodes.now.items in
    pushed_scopes c.args.nodes.now.items c.push_behind-in-LookedUp.new.nodes.items c.in_ok-node-in-LookedUp.node c.args.end c.push_behind-in-LookedUp.result c.push_behind-in-LookedUp.ensures.nodes c.push_behind-in-LookedUp.ensures.behind ns (none_keeps ns)

-- one of other elements
pub add_group-returns-in_ok-last-in-Nested-clause-further : goal.add_group-returns-in_ok-last-in-Nested-clause-further
add_group-returns-in_ok-last-in-Nested-clause-further g t c =
    let end = c.args.end in
    let old = c.args.nodes.now.items in
    let mid = c.add_nodes.new.nodes.items in
    let new = c.push_behind-in-Nested.new.nodes.items in
    let last = c.in_ok-last-in-Nested.last in
    let inner = elements (map element_of c.args.inner.items) in
    let n = grouping end.list last c.args.positive end.width in
    let same : c.as_slice.result.now ≡ c.args.inner.items = search rules in
    let found = subst (λ it. IsKind c.in_ok-kind_of.field-0 (lone_pattern (elements (map element_of it)))) same c.in_ok-kind_of.ensures in
    let none = nested_none c.in_ok-kind_of.field-0 (lone_pattern inner) c.in-Nested.is found in
    pushed_further mid new (kept.Group end.width c.new-node.result) end c.push_behind-in-Nested.result c.push_behind-in-Nested.ensures.nodes c.push_behind-in-Nested.ensures.behind (flat_nodes old) (group c.args.positive inner)
    (λ pushed long. group_further (flat_nodes old) (flat_nodes mid) (flat_nodes new) end (length new) last c.args.positive inner none c.in_ok-last-in-Nested.ensures.nodes c.in_ok-last-in-Nested.ensures.last
    (nodes_pushed mid new (kept.Group end.width c.new-node.result) n pushed (group_flat g.row.T.Denot end.width end.list last c.args.positive c.new-node.result c.new-node.ensures.from c.new-node.ensures.inner c.new-node.ensures.positive)) long)

pub add_group-returns-in_ok-last-in-Nested-clause-stands : goal.add_group-returns-in_ok-last-in-Nested-clause-stands
add_group-returns-in_ok-last-in-Nested-clause-stands g t c =
    let end = c.args.end in
    let old = c.args.nodes.now.items in
    let mid = c.add_nodes.new.nodes.items in
    let before = c.args.bound.now in
    let counted : take (length before) c.add_nodes.new.bound ≡ before = c.in_ok-last-in-Nested.ensures.bound in
    let back : c.keep_first.new.self ≡ before = search rules in
    pushed_stands mid c.push_behind-in-Nested.new.nodes.items (kept.Group end.width c.new-node.result) end c.push_behind-in-Nested.result c.push_behind-in-Nested.ensures.nodes c.push_behind-in-Nested.ensures.behind
    (grouping end.list c.in_ok-last-in-Nested.last c.args.positive end.width) c.keep_first.new.self
    (group_flat g.row.T.Denot end.width end.list c.in_ok-last-in-Nested.last c.args.positive c.new-node.result c.new-node.ensures.from c.new-node.ensures.inner c.new-node.ensures.positive) refl refl
    (inner_stands old mid end before c.keep_first.new.self c.requires.stands c.in_ok-last-in-Nested.ensures.planned c.in_ok-last-in-Nested.ensures.scopes back)
    (group_planned (scope_of (flat_nodes mid)) end.width end.list c.in_ok-last-in-Nested.last c.new-node.result c.new-node.ensures.from c.new-node.ensures.inner c.new-node.ensures.ready)

pub add_group-returns-in_ok-last-in-Nested-clause-scopes : goal.add_group-returns-in_ok-last-in-Nested-clause-scopes
add_group-returns-in_ok-last-in-Nested-clause-scopes g t c =
    pushed_scopes c.add_nodes.new.nodes.items c.push_behind-in-Nested.new.nodes.items (kept.Group c.args.end.width c.new-node.result) c.args.end c.push_behind-in-Nested.result c.push_behind-in-Nested.ensures.nodes c.push_behind-in-Nested.ensures.behind
    (flat_nodes c.args.nodes.now.items) c.in_ok-last-in-Nested.ensures.scopes

-- the elements of a group begin where it stands
pub add_group-only_pattern-requires : goal.add_group-only_pattern-requires
add_group-only_pattern-requires g t c =
    let same : c.as_slice.result.now ≡ c.args.inner.items = search rules in
    let found = subst (λ it. IsKind c.in_ok-kind_of.field-0 (lone_pattern (elements (map element_of it)))) same c.in_ok-kind_of.ensures in
    alone_some c.in_ok-kind_of.field-0 (lone_pattern (elements (map element_of c.args.inner.items))) c.in-Alone.is found

pub add_group-only_pattern-pattern-requires : goal.add_group-only_pattern-pattern-requires
add_group-only_pattern-pattern-requires g t c =
    let same : c.as_slice.result.now ≡ c.args.inner.items = search rules in
    let found = subst (λ it. IsKind c.in_ok-kind_of.field-0 (lone_pattern (elements (map element_of it)))) same c.in_ok-kind_of.ensures in
    looked_some c.in_ok-kind_of.field-0 c.in-LookedUp.compared (lone_pattern (elements (map element_of c.args.inner.items))) c.in-LookedUp.is found

-- a test
pub add_node-returns-in-Test-clause-stands : goal.add_node-returns-in-Test-clause-stands
add_node-returns-in-Test-clause-stands g t c =
    let old = c.args.nodes.now.items in
    let new = c.add_test.new.nodes.items in
    if_then (λ behind. (names : Scope) → StandsAt old c.args.end names → StandsAt new behind names) (λ behind. StandsAt new behind c.args.bound.now) c.add_test.result (λ behind stands. stands c.args.bound.now c.requires.stands) c.add_test.ensures.stands
