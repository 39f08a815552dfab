use Rattle.std.proofs.Common.{◌≡◌, ◌∙◌, ◌++◌, ◌↔◌, suc, List, [], ◌∷◌, ap, arith, length, map, rules, subst, sym}
use Rattle.std.proofs.lemmas.List.{with_items_is}
use Rattle.std.specs.Vec.{with_items}
use Rattle.cb_beta.specs.BetaMemories.{BetaMemoryValue}
use Rattle.cb_branch.proofs.Begun.{fill_turning, sources_long}
use Rattle.cb_branch.proofs.Matched.{last_is_matches}
use Rattle.cb_branch.proofs.Told.{all_come, over_of}
use Rattle.cb_branch.proofs.branch.Branch.fill.Goals as goal
use Rattle.cb_branch.specs.Branches.{AreTurned, CanBeFilled}
use Rattle.cb_branch.specs.Internal.{BeginsFilling}
use Rattle.cb_branch.specs.declared.branch.Branch.{Branch}
use Rattle.cb_branch.specs.Alphas.{HasUse}
use Rattle.cb_branch.specs.Ready.{AreNodesCleared}
use Rattle.cb_branch.specs.Turning.{ArePrepared, AreSameNodes}
use Rattle.cb_flat.proofs.Last.{nothing_of_nothing}
use Rattle.cb_flat.specs.Sources.{sources_of}
use Rattle.cb_matches.specs.Changes.{come_of}
use Rattle.cb_matches.specs.Matches.{Partial, no_parts}
use Rattle.cb_nodes.proofs.Grown.{ways_rise}
use Rattle.cb_nodes.specs.Flat.{lists_of}
use Rattle.cb_nodes.specs.Lists.{branch_lists}
use Rattle.cb_branch.specs.Nodes.{flat_nodes}
use Rattle.cb_branch.specs.declared.node.Node.{Node}
use Rattle.cb_rule_keys.specs.Keys.{key_of}

pub returns-clause-alphas : goal.returns-clause-alphas
returns-clause-alphas g c k u =
    let b = c.args.self.now in
    let nodes = c.clear_nodes.new.nodes in
    let nodes_are = with_items_is b.nodes nodes (c.clear_nodes.auto.nodes ∙ c.as_mut_slice.ensures.len) in
    let same : AreSameNodes b.nodes.items nodes = subst (λ (it : List (Node g.row.T.Denot)). AreSameNodes it nodes) c.as_mut_slice.ensures.value c.clear_nodes.ensures.same in
    let then = subst (λ (it : List (Node g.row.T.Denot)). HasUse it k u ↔ HasUse c.turn.new.branch.nodes.items k u) nodes_are (c.in_ok-turn.ensures.alphas k u) in
    (λ h. then.0 ((same.uses k u).0 h), λ h. (same.uses k u).1 (then.1 h))

pub returns-clause-over : goal.returns-clause-over
returns-clause-over g c fs rising turned =
    let alphas = c.args.alphas.now in
    let rise = ways_rise c.the_ways_rise_by_their_cuts.ensures in
    let b = c.args.self.now in
    let planned = c.requires in
    let nodes = c.clear_nodes.new.nodes in
    let empties = c.in_ok-self.field-0 in
    let lists = c.add_first.new.lists in
    let b₁ : Branch g.row.T.Denot =
    record { elements = b.elements; nodes = with_items b.nodes nodes; sources = b.sources; last = b.last; lists = with_items empties lists } in
    let nodes_are = with_items_is b.nodes nodes (c.clear_nodes.auto.nodes ∙ c.as_mut_slice.ensures.len) in
    let lists_are = with_items_is empties lists (c.add_first.auto.lists ∙ c.as_mut_slice-2.ensures.len) in
    let same : AreSameNodes b.nodes.items nodes = subst (λ (it : List (Node g.row.T.Denot)). AreSameNodes it nodes) c.as_mut_slice.ensures.value c.clear_nodes.ensures.same in
    let planned₁ : CanBeFilled b₁ = record {
      nodes = ap flat_nodes nodes_are ∙ (same.flat ∙ planned.nodes);
      sources = planned.sources ∙ ap sources_of (sym (ap flat_nodes nodes_are ∙ same.flat));
      last = planned.last;
      prepared = subst (λ (it : List (Node g.row.T.Denot)). ArePrepared it) (sym nodes_are) (same.prepared planned.prepared);
    } in
    let many = sources_long b₁ planned₁ in
    let len : c.len.result ≡ length b.sources.items = search rules in
    let count = c.in_ok-self.ensures.long in
    let long : length empties.items ≡ suc (length (with_items b.nodes nodes).items) = omega (arith, count, len, many) in
    let cleared = subst (λ (it : List (Node g.row.T.Denot)). AreNodesCleared it) (sym nodes_are)
    (c.clear_nodes.ensures.cleared (subst (λ (it : List (Node g.row.T.Denot)). ArePrepared it) (sym c.as_mut_slice.ensures.value) planned.prepared)) in
    let first : BeginsFilling empties.items (with_items empties lists).items = subst (λ (it : List BetaMemoryValue). BeginsFilling empties.items it) (sym lists_are)
    (subst (λ (it : List BetaMemoryValue). BeginsFilling it lists) c.as_mut_slice-2.ensures.value c.in_ok-add_first.ensures) in
    let turned₁ : AreTurned alphas fs fs b₁ = λ k u h. turned k u ((same.uses k u).1 (subst (λ (it : List (Node g.row.T.Denot)). HasUse it k u) nodes_are h)) in
    let w = fill_turning alphas fs rise rising b₁ planned₁ empties.items long c.in_ok-self.ensures.empty cleared first turned₁ in
    let ns = flat_nodes (with_items b.nodes nodes).items in
    let t = c.in_ok-turn.ensures.turned empties.items fs fs [] (no_parts ∷ []) (lists_of ns fs []) (branch_lists ns fs) w in
    over_of alphas fs b₁ c.turn.new.branch planned₁ (c.in_ok-turn.ensures.planned planned₁) c.in_ok-turn.ensures.elements t

pub returns-clause-come : goal.returns-clause-come
returns-clause-come g c fs rising turned =
    let alphas = c.args.alphas.now in
    let rule = c.args.rule in
    let number = c.args.number in
    let rise = ways_rise c.the_ways_rise_by_their_cuts.ensures in
    let b = c.args.self.now in
    let planned = c.requires in
    let nodes = c.clear_nodes.new.nodes in
    let empties = c.in_ok-self.field-0 in
    let lists = c.add_first.new.lists in
    let b₁ : Branch g.row.T.Denot =
    record { elements = b.elements; nodes = with_items b.nodes nodes; sources = b.sources; last = b.last; lists = with_items empties lists } in
    let nodes_are = with_items_is b.nodes nodes (c.clear_nodes.auto.nodes ∙ c.as_mut_slice.ensures.len) in
    let lists_are = with_items_is empties lists (c.add_first.auto.lists ∙ c.as_mut_slice-2.ensures.len) in
    let same : AreSameNodes b.nodes.items nodes = subst (λ (it : List (Node g.row.T.Denot)). AreSameNodes it nodes) c.as_mut_slice.ensures.value c.clear_nodes.ensures.same in
    let planned₁ : CanBeFilled b₁ = record {
      nodes = ap flat_nodes nodes_are ∙ (same.flat ∙ planned.nodes);
      sources = planned.sources ∙ ap sources_of (sym (ap flat_nodes nodes_are ∙ same.flat));
      last = planned.last;
      prepared = subst (λ (it : List (Node g.row.T.Denot)). ArePrepared it) (sym nodes_are) (same.prepared planned.prepared);
    } in
    let many = sources_long b₁ planned₁ in
    let len : c.len.result ≡ length b.sources.items = search rules in
    let count = c.in_ok-self.ensures.long in
    let long : length empties.items ≡ suc (length (with_items b.nodes nodes).items) = omega (arith, count, len, many) in
    let cleared = subst (λ (it : List (Node g.row.T.Denot)). AreNodesCleared it) (sym nodes_are)
    (c.clear_nodes.ensures.cleared (subst (λ (it : List (Node g.row.T.Denot)). ArePrepared it) (sym c.as_mut_slice.ensures.value) planned.prepared)) in
    let first : BeginsFilling empties.items (with_items empties lists).items = subst (λ (it : List BetaMemoryValue). BeginsFilling empties.items it) (sym lists_are)
    (subst (λ (it : List BetaMemoryValue). BeginsFilling it lists) c.as_mut_slice-2.ensures.value c.in_ok-add_first.ensures) in
    let turned₁ : AreTurned alphas fs fs b₁ = λ k u h. turned k u ((same.uses k u).1 (subst (λ (it : List (Node g.row.T.Denot)). HasUse it k u) nodes_are h)) in
    let w = fill_turning alphas fs rise rising b₁ planned₁ empties.items long c.in_ok-self.ensures.empty cleared first turned₁ in
    let ns = flat_nodes (with_items b.nodes nodes).items in
    let told = c.in_ok-turn.ensures.told empties.items fs fs [] (no_parts ∷ []) (lists_of ns fs []) (branch_lists ns fs) w in
    let ks = map (key_of rule number) (branch_lists ns fs b.last) in
    let come = told.come
    ∙ (ap (λ it. it ++ come_of (map (key_of rule number) (lists_of ns fs [] b.last)) ks) c.new-2.ensures.items
    ∙ (ap (λ (ms : List Partial). come_of (map (key_of rule number) ms) ks) (nothing_of_nothing ns fs b.last)
    ∙ (all_come ks ∙ ap (map (key_of rule number)) (last_is_matches b₁ planned₁ rise fs rising)))) in
    c.in_ok-append.ensures.items ∙ ap (λ it. c.args.come.now.items ++ it) come

pub returns-clause-numbers : goal.returns-clause-numbers
returns-clause-numbers g c fs rising turned =
    let alphas = c.args.alphas.now in
    let rule = c.args.rule in
    let number = c.args.number in
    let rise = ways_rise c.the_ways_rise_by_their_cuts.ensures in
    let b = c.args.self.now in
    let planned = c.requires in
    let nodes = c.clear_nodes.new.nodes in
    let empties = c.in_ok-self.field-0 in
    let lists = c.add_first.new.lists in
    let b₁ : Branch g.row.T.Denot =
    record { elements = b.elements; nodes = with_items b.nodes nodes; sources = b.sources; last = b.last; lists = with_items empties lists } in
    let nodes_are = with_items_is b.nodes nodes (c.clear_nodes.auto.nodes ∙ c.as_mut_slice.ensures.len) in
    let lists_are = with_items_is empties lists (c.add_first.auto.lists ∙ c.as_mut_slice-2.ensures.len) in
    let same : AreSameNodes b.nodes.items nodes = subst (λ (it : List (Node g.row.T.Denot)). AreSameNodes it nodes) c.as_mut_slice.ensures.value c.clear_nodes.ensures.same in
    let planned₁ : CanBeFilled b₁ = record {
      nodes = ap flat_nodes nodes_are ∙ (same.flat ∙ planned.nodes);
      sources = planned.sources ∙ ap sources_of (sym (ap flat_nodes nodes_are ∙ same.flat));
      last = planned.last;
      prepared = subst (λ (it : List (Node g.row.T.Denot)). ArePrepared it) (sym nodes_are) (same.prepared planned.prepared);
    } in
    let many = sources_long b₁ planned₁ in
    let len : c.len.result ≡ length b.sources.items = search rules in
    let count = c.in_ok-self.ensures.long in
    let long : length empties.items ≡ suc (length (with_items b.nodes nodes).items) = omega (arith, count, len, many) in
    let cleared = subst (λ (it : List (Node g.row.T.Denot)). AreNodesCleared it) (sym nodes_are)
    (c.clear_nodes.ensures.cleared (subst (λ (it : List (Node g.row.T.Denot)). ArePrepared it) (sym c.as_mut_slice.ensures.value) planned.prepared)) in
    let first : BeginsFilling empties.items (with_items empties lists).items = subst (λ (it : List BetaMemoryValue). BeginsFilling empties.items it) (sym lists_are)
    (subst (λ (it : List BetaMemoryValue). BeginsFilling it lists) c.as_mut_slice-2.ensures.value c.in_ok-add_first.ensures) in
    let turned₁ : AreTurned alphas fs fs b₁ = λ k u h. turned k u ((same.uses k u).1 (subst (λ (it : List (Node g.row.T.Denot)). HasUse it k u) nodes_are h)) in
    let w = fill_turning alphas fs rise rising b₁ planned₁ empties.items long c.in_ok-self.ensures.empty cleared first turned₁ in
    let ns = flat_nodes (with_items b.nodes nodes).items in
    let told = c.in_ok-turn.ensures.numbers empties.items fs fs [] (no_parts ∷ []) (lists_of ns fs []) (branch_lists ns fs) w in
    record {
      more = told.come.more;
      more_numbers = told.come.more_numbers;
      keys_are = c.in_ok-append.ensures.items ∙ ap (λ it. c.args.come.now.items ++ it) (told.come.keys_are ∙ ap (λ it. it ++ told.come.more) c.new-2.ensures.items);
      numbers_are = c.in_ok-append-2.ensures.items ∙ ap (λ it. c.args.come_numbers.now.items ++ it) (told.come.numbers_are ∙ ap (λ it. it ++ told.come.more_numbers) c.new-4.ensures.items);
      have = told.come.have;
    }
