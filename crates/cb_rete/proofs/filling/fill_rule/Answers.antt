use Rattle.std.proofs.Common.{List, subst, sym, ◌∙◌}
use Rattle.std.proofs.lemmas.List.{with_items_is}
use Rattle.cb_branch.specs.declared.branch.Branch.{Branch}
use Rattle.cb_rete.proofs.Results.{on_one}
use Rattle.cb_rete.proofs.filling.fill_rule.Goals as goal
use Rattle.cb_rete.specs.Filling.{AreBranchesFilled}
use Rattle.cb_rete.specs.Rules.{AreBranchesEntered, kept_branches}

pub returns-clause-filled : goal.returns-clause-filled
returns-clause-filled g c =
    let r = c.args.rule.now in
    let new : List (Branch g.row.T.Denot) = c.fill_branches.new.branches in
    let items = with_items_is r.branches new (c.fill_branches.auto.branches ∙ c.as_mut_slice.ensures.len) in
    on_one c.fill_branches.result c.fill_branches.ensures.filled
    (λ filled v fs is entered.
    subst (λ (bs : List (Branch g.row.T.Denot)). AreBranchesFilled v fs r.id (kept_branches r.branches.items) bs c.args.come.now.items c.fill_branches.new.come.items c.args.come_numbers.now.items c.fill_branches.new.come_numbers.items) (sym items)
    (subst (λ (bs : List (Branch g.row.T.Denot)). AreBranchesFilled v fs r.id (kept_branches bs) new c.args.come.now.items c.fill_branches.new.come.items c.args.come_numbers.now.items c.fill_branches.new.come_numbers.items) c.as_mut_slice.ensures.value
    (filled v fs is (subst (λ (bs : List (Branch g.row.T.Denot)). AreBranchesEntered v r.id bs) (sym c.as_mut_slice.ensures.value) entered))))
