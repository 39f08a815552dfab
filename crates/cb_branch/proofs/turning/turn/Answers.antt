use Rattle.std.proofs.Common.{◌≡◌, ◌∙◌, ◌≤◌, ◌+◌, ◌↔◌, ℕ, List, Some, ap, arith, length, slice_get, subst, sym}
use Rattle.std.proofs.lemmas.List.{with_items_is}
use Rattle.std.specs.Vec.{with_items}
use Rattle.cb_beta.specs.BetaMemories.{BetaMemoryValue}
use Rattle.cb_branch.proofs.AtEnd.{at_last, change_told, is_there}
use Rattle.cb_branch.proofs.Ended.{ended_long, ended_ready, ended_rest, last_there, last_turns}
use Rattle.cb_branch.proofs.Matched.{last_within}
use Rattle.cb_branch.proofs.MatchNumbers.{tells_more}
use Rattle.cb_branch.proofs.Told.{turned_branch}
use Rattle.cb_branch.proofs.turning.turn.Goals as goal
use Rattle.cb_branch.specs.Alphas.{AlphaUse, HasUse, TakesAdded}
use Rattle.cb_branch.specs.Branches.{numbers_of}
use Rattle.cb_branch.specs.Turning.{AreNodesAfter, AreNodesBefore}
use Rattle.cb_flat.specs.Joined.{flat_joins}
use Rattle.cb_list_changes.specs.Resting.{AreEnded}
use Rattle.cb_matches.specs.Changes.{IsNumber, TellsMoreNumbers}
use Rattle.cb_branch.specs.Nodes.{flat_nodes}
use Rattle.cb_branch.specs.declared.node.Node.{Node}
use Rattle.cb_token_lists.specs.Partials.{SourceValue, partial_at}
use Rattle.cb_token_lists.specs.Turns.{Turns}

pub returns-clause-alphas : goal.returns-clause-alphas
returns-clause-alphas g c k u =
    let b = c.args.branch.now in
    let nodes = c.change_nodes.new.nodes in
    let nodes_are = with_items_is b.nodes nodes (c.change_nodes.auto.nodes ∙ c.as_mut_slice.ensures.len) in
    subst (λ (it : List (Node g.row.T.Denot)). HasUse b.nodes.items k u ↔ HasUse it k u) (sym nodes_are)
    (subst (λ (it : List (Node g.row.T.Denot)). HasUse it k u ↔ HasUse nodes k u) c.as_mut_slice.ensures.value (c.in_ok-change_nodes.ensures.same.uses k u))

pub returns-clause-turned : goal.returns-clause-turned
returns-clause-turned g c before fs fs' first first' old new w =
    let alphas = c.args.alphas.now in
    let b = c.args.branch.now in
    let ss = b.sources.items in
    let nodes = c.change_nodes.new.nodes in
    let lists = c.change_nodes.new.lists in
    let ended = c.end_change.new.lists in
    let nodes_are = with_items_is b.nodes nodes (c.change_nodes.auto.nodes ∙ c.as_mut_slice.ensures.len) in
    let lists_are = with_items_is b.lists lists (c.change_nodes.auto.lists ∙ c.as_mut_slice-2.ensures.len) in
    let ended_are = with_items_is (with_items b.lists lists) ended (c.end_change.auto.lists ∙ c.as_mut_slice-3.ensures.len) in
    let same : flat_nodes nodes ≡ flat_nodes b.nodes.items = c.in_ok-change_nodes.ensures.same.flat ∙ ap flat_nodes c.as_mut_slice.ensures.value in
    let before_nodes : AreNodesBefore alphas c.as_slice.result.now before c.as_mut_slice-2.result.now fs fs' first first' old new c.as_mut_slice.result.now =
    subst (λ (it : List SourceValue). AreNodesBefore alphas it before c.as_mut_slice-2.result.now fs fs' first first' old new c.as_mut_slice.result.now) (sym c.as_slice.ensures.value)
    (subst (λ (it : List BetaMemoryValue). AreNodesBefore alphas ss before it fs fs' first first' old new c.as_mut_slice.result.now) (sym c.as_mut_slice-2.ensures.value)
    (subst (λ (it : List (Node g.row.T.Denot)). AreNodesBefore alphas ss before b.lists.items fs fs' first first' old new it) (sym c.as_mut_slice.ensures.value) w.nodes)) in
    let after : AreNodesAfter alphas ss before lists old new nodes =
    subst (λ (it : List SourceValue). AreNodesAfter alphas it before lists old new nodes) c.as_slice.ensures.value
    (c.in_ok-change_nodes.ensures.after before fs fs' first first' old new before_nodes) in
    let ends : AreEnded lists ended = subst (λ (it : List BetaMemoryValue). AreEnded it ended) (c.as_mut_slice-3.ensures.value ∙ lists_are) c.end_change.ensures in
    turned_branch alphas new _ nodes ended nodes_are ended_are
    (ended_long alphas ss before b.lists.items fs fs' first first' old new b.nodes.items w.nodes lists nodes same after ended ends)
    (ended_rest alphas ss before b.lists.items fs fs' first first' old new b.nodes.items w.nodes lists nodes same after ended ends)
    (ended_ready alphas ss before b.lists.items fs fs' first first' old new b.nodes.items w.nodes lists nodes same after ended ends)

pub returns-clause-told : goal.returns-clause-told
returns-clause-told g c before fs fs' first first' old new w =
    let alphas = c.args.alphas.now in
    let rule = c.args.rule in
    let number = c.args.number in
    let b = c.args.branch.now in
    let ss = b.sources.items in
    let nodes = c.change_nodes.new.nodes in
    let lists = c.change_nodes.new.lists in
    let lists_are = with_items_is b.lists lists (c.change_nodes.auto.lists ∙ c.as_mut_slice-2.ensures.len) in
    let same : flat_nodes nodes ≡ flat_nodes b.nodes.items = c.in_ok-change_nodes.ensures.same.flat ∙ ap flat_nodes c.as_mut_slice.ensures.value in
    let before_nodes : AreNodesBefore alphas c.as_slice.result.now before c.as_mut_slice-2.result.now fs fs' first first' old new c.as_mut_slice.result.now =
    subst (λ (it : List SourceValue). AreNodesBefore alphas it before c.as_mut_slice-2.result.now fs fs' first first' old new c.as_mut_slice.result.now) (sym c.as_slice.ensures.value)
    (subst (λ (it : List BetaMemoryValue). AreNodesBefore alphas ss before it fs fs' first first' old new c.as_mut_slice.result.now) (sym c.as_mut_slice-2.ensures.value)
    (subst (λ (it : List (Node g.row.T.Denot)). AreNodesBefore alphas ss before b.lists.items fs fs' first first' old new it) (sym c.as_mut_slice.ensures.value) w.nodes)) in
    let after : AreNodesAfter alphas ss before lists old new nodes =
    subst (λ (it : List SourceValue). AreNodesAfter alphas it before lists old new nodes) c.as_slice.ensures.value
    (c.in_ok-change_nodes.ensures.after before fs fs' first first' old new before_nodes) in
    let within = last_within b w.planned in
    let m = last_there alphas ss before b.lists.items fs fs' first first' old new b.nodes.items w.nodes lists nodes same after b.last within in
    let turned = last_turns alphas ss before b.lists.items fs fs' first first' old new b.nodes.items w.nodes lists nodes same after b.last within in
    change_told rule number _ c.end.result c.end.ensures m.0 (old b.last) (new b.last) c.args.delta.now c.tell_change.new.delta
    (subst (λ (it : List BetaMemoryValue). slice_get it b.last ≡ Some m.0) (sym lists_are) m.1)
    (subst (λ (it : List BetaMemoryValue). Turns (partial_at ss it b.last) m.0 (old b.last) (new b.last)) (sym lists_are) turned) w.sorted w.sorted_now c.in_ok-tell_change.ensures.keys

pub returns-clause-numbers : goal.returns-clause-numbers
returns-clause-numbers g c before fs fs' first first' old new w =
    let alphas = c.args.alphas.now in
    let rule = c.args.rule in
    let number = c.args.number in
    let b = c.args.branch.now in
    let ss = b.sources.items in
    let nodes = c.change_nodes.new.nodes in
    let lists = c.change_nodes.new.lists in
    let lists_are = with_items_is b.lists lists (c.change_nodes.auto.lists ∙ c.as_mut_slice-2.ensures.len) in
    let same : flat_nodes nodes ≡ flat_nodes b.nodes.items = c.in_ok-change_nodes.ensures.same.flat ∙ ap flat_nodes c.as_mut_slice.ensures.value in
    let before_nodes : AreNodesBefore alphas c.as_slice.result.now before c.as_mut_slice-2.result.now fs fs' first first' old new c.as_mut_slice.result.now =
    subst (λ (it : List SourceValue). AreNodesBefore alphas it before c.as_mut_slice-2.result.now fs fs' first first' old new c.as_mut_slice.result.now) (sym c.as_slice.ensures.value)
    (subst (λ (it : List BetaMemoryValue). AreNodesBefore alphas ss before it fs fs' first first' old new c.as_mut_slice.result.now) (sym c.as_mut_slice-2.ensures.value)
    (subst (λ (it : List (Node g.row.T.Denot)). AreNodesBefore alphas ss before b.lists.items fs fs' first first' old new it) (sym c.as_mut_slice.ensures.value) w.nodes)) in
    let after : AreNodesAfter alphas ss before lists old new nodes =
    subst (λ (it : List SourceValue). AreNodesAfter alphas it before lists old new nodes) c.as_slice.ensures.value
    (c.in_ok-change_nodes.ensures.after before fs fs' first first' old new before_nodes) in
    let within = last_within b w.planned in
    let m = last_there alphas ss before b.lists.items fs fs' first first' old new b.nodes.items w.nodes lists nodes same after b.last within in
    let turned = last_turns alphas ss before b.lists.items fs fs' first first' old new b.nodes.items w.nodes lists nodes same after b.last within in
    let ended = c.end_change.new.lists in
    let ended_are = with_items_is (with_items b.lists lists) ended (c.end_change.auto.lists ∙ c.as_mut_slice-3.ensures.len) in
    let ends : AreEnded lists ended = subst (λ (it : List BetaMemoryValue). AreEnded it ended) (c.as_mut_slice-3.ensures.value ∙ lists_are) c.end_change.ensures in
    let end = c.end.ensures in
    let at_end_is = at_last rule number _ c.end.result end ∙ ap (λ (it : List BetaMemoryValue). partial_at ss it b.last) lists_are in
    let here = is_there rule number _ c.end.result end m.0 (subst (λ (it : List BetaMemoryValue). slice_get it b.last ≡ Some m.0) (sym lists_are) m.1) in
    subst (λ (it : List BetaMemoryValue). TellsMoreNumbers (IsNumber (numbers_of rule number b before)) (IsNumber (numbers_of rule number b it)) c.args.delta.now c.tell_change.new.delta) (sym ended_are)
    (tells_more ss before lists ended old new (length nodes) w.nodes.rest after.halfway (let long = after.long in omega (arith, long)) ends rule number b.last m.0 m.1 turned
    c.end.result end.rule_is end.branch_is at_end_is c.args.delta.now c.tell_change.new.delta (c.in_ok-tell_change.ensures.numbers m.0 here))

pub returns-clause-probes : goal.returns-clause-probes
returns-clause-probes g c before fs fs' first first' old new added w takes =
    let alphas = c.args.alphas.now in
    let b = c.args.branch.now in
    let ss = b.sources.items in
    let before_nodes : AreNodesBefore alphas c.as_slice.result.now before c.as_mut_slice-2.result.now fs fs' first first' old new c.as_mut_slice.result.now =
    subst (λ (it : List SourceValue). AreNodesBefore alphas it before c.as_mut_slice-2.result.now fs fs' first first' old new c.as_mut_slice.result.now) (sym c.as_slice.ensures.value)
    (subst (λ (it : List BetaMemoryValue). AreNodesBefore alphas ss before it fs fs' first first' old new c.as_mut_slice.result.now) (sym c.as_mut_slice-2.ensures.value)
    (subst (λ (it : List (Node g.row.T.Denot)). AreNodesBefore alphas ss before b.lists.items fs fs' first first' old new it) (sym c.as_mut_slice.ensures.value) w.nodes)) in
    let took = subst (λ (it : List (Node g.row.T.Denot)). (k : ℕ) (u : AlphaUse) → HasUse it k u → TakesAdded alphas added u) (sym c.as_mut_slice.ensures.value) takes in
    subst (λ (it : List (Node g.row.T.Denot)). c.change_nodes.new.meter ≤ c.args.meter.now + flat_joins added fs' old new (flat_nodes it)) c.as_mut_slice.ensures.value
    (c.in_ok-change_nodes.ensures.probes before fs fs' first first' old new added before_nodes took)
