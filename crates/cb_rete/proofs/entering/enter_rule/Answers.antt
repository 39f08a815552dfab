use Rattle.std.proofs.Common.{List, subst, sym, ◌∙◌}
use Rattle.std.proofs.lemmas.List.{with_items_is}
use Rattle.cb_branch.specs.Entries.{GainsPatterns}
use Rattle.cb_branch.specs.Patterns.{branch_patterns}
use Rattle.cb_branch.specs.declared.branch.Branch.{Branch}
use Rattle.cb_rete.proofs.Results.{on_one}
use Rattle.cb_rete.proofs.entering.enter_rule.Goals as goal
use Rattle.cb_rete.specs.Rules.{AreBranchesEntered, kept_branches}
use Rattle.cb_rule_keys.specs.Sums.{branches_sum}

pub returns-clause-entered : goal.returns-clause-entered
returns-clause-entered g c =
    let r = c.args.rule.now in
    let new : List (Branch g.row.T.Denot) = c.enter_branches.new.branches in
    let items = with_items_is r.branches new (c.enter_branches.auto.branches ∙ c.as_mut_slice.ensures.len) in
    on_one c.enter_branches.result c.enter_branches.ensures.entered
    (λ entered. subst (λ (bs : List (Branch g.row.T.Denot)). AreBranchesEntered c.enter_branches.new.network r.id bs) (sym items) entered)

pub returns-clause-network : goal.returns-clause-network
returns-clause-network g c =
    on_one c.enter_branches.result c.enter_branches.ensures.network
    (λ gains. subst (λ (bs : List (Branch g.row.T.Denot)). GainsPatterns c.args.facts.now (branches_sum branch_patterns (kept_branches bs)) c.args.network.now c.enter_branches.new.network) c.as_mut_slice.ensures.value gains)
