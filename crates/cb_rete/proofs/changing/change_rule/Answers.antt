use Rattle.std.proofs.Common.{List, ap, subst, sym, ◌∙◌}
use Rattle.std.proofs.lemmas.List.{with_items_is}
use Rattle.cb_branch.specs.declared.branch.Branch.{Branch}
use Rattle.cb_matches.specs.Changes.{TellsMoreNumbers}
use Rattle.cb_rete.proofs.Results.{on_one}
use Rattle.cb_rete.proofs.changing.change_rule.Goals as goal
use Rattle.cb_rete.specs.Changing.{AreBranchesChanged, AreBranchesDone, AreBranchesReady}
use Rattle.cb_rete.specs.Numbers.{IsNumberInBranches}
use Rattle.cb_rete.specs.Rules.{kept_branches}
use Rattle.cb_rules.specs.Elements.{Elements}

pub returns : goal.returns
returns g c =
    let r = c.args.rule.now in
    let new : List (Branch g.row.T.Denot) = c.change_branches.new.branches in
    let items = with_items_is r.branches new (c.change_branches.auto.branches ∙ c.as_mut_slice.ensures.len) in
    on_one c.change_branches.result c.change_branches.ensures
    (λ now turn is of ready.
    let done = subst (λ (bs : List (Branch g.row.T.Denot)). AreBranchesChanged turn r.id bs new c.args.delta.now c.change_branches.new.delta c.args.meter.now c.change_branches.new.meter) c.as_mut_slice.ensures.value
    (now turn is of (subst (λ (bs : List (Branch g.row.T.Denot)). AreBranchesReady turn r.id bs) (sym c.as_mut_slice.ensures.value) ready)) in
    let numbers = subst (λ (bs : List (Branch g.row.T.Denot)). TellsMoreNumbers (IsNumberInBranches r.id r.branches.items) (IsNumberInBranches r.id bs) c.args.delta.now c.change_branches.new.delta) (sym items) done.numbers in
    record {
      changed = record {
        stay = ap (λ (bs : List (Branch g.row.T.Denot)). (r.id, kept_branches bs)) items ∙ ap (λ (es : List Elements). (r.id, es)) done.stay;
        is = subst (λ (bs : List (Branch g.row.T.Denot)). AreBranchesDone turn r.id bs) (sym items) done.done;
        told = done.told;
        paid = done.paid;
      };
      numbers = numbers;
    })
