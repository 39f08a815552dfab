use Rattle.std.proofs.Common.{◌∙◌, List, ap, refl, subst}
use Rattle.std.proofs.lemmas.List.{with_items_is}
use Rattle.cb_beta.proofs.Losses.{on_ok}
use Rattle.cb_branch.proofs.Entered.{are_used, patterns_are, renumbered}
use Rattle.cb_branch.proofs.branch.Branch.enter.Goals as goal
use Rattle.cb_branch.specs.Alphas.{HasUse}
use Rattle.cb_branch.specs.Entries.{AreRenumbered, GainsPatterns}
use Rattle.cb_branch.specs.Nodes.{flat_nodes}
use Rattle.cb_branch.specs.declared.node.Node.{Node}
use Rattle.cb_flat.specs.Taking.{pattern_count}

pub returns-clause-plan : goal.returns-clause-plan
returns-clause-plan g c =
    let b = c.args.self.now in
    let nodes = c.enter_nodes.new.nodes in
    let nodes_are = with_items_is b.nodes nodes (c.enter_nodes.auto.nodes ∙ c.as_mut_slice.ensures.len) in
    on_ok c.enter_nodes.result
    (λ same. renumbered b _ nodes c.requires.plan (subst (λ (it : List (Node g.row.T.Denot)). AreRenumbered it nodes) c.as_mut_slice.ensures.value same) nodes_are refl refl refl)
    c.enter_nodes.ensures.nodes

pub returns-clause-entered : goal.returns-clause-entered
returns-clause-entered g c =
    let nodes = c.enter_nodes.new.nodes in
    let nodes_are = with_items_is c.args.self.now.nodes nodes (c.enter_nodes.auto.nodes ∙ c.as_mut_slice.ensures.len) in
    on_ok c.enter_nodes.result
    (λ entered k u h. are_used c.enter_nodes.new.network c.args.rule c.args.number nodes entered k u (subst (λ (it : List (Node g.row.T.Denot)). HasUse it k u) nodes_are h))
    c.enter_nodes.ensures.entered

pub returns-clause-network : goal.returns-clause-network
returns-clause-network g c =
    let b = c.args.self.now in
    let many = ap (λ (it : List (Node g.row.T.Denot)). pattern_count (flat_nodes it)) c.as_mut_slice.ensures.value ∙ patterns_are b c.requires.plan in
    on_ok c.enter_nodes.result
    (λ gains. subst (λ n. GainsPatterns c.args.facts.now n c.args.network.now c.enter_nodes.new.network) many gains)
    c.enter_nodes.ensures.network
