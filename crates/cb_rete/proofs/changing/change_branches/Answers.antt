use Rattle.std.proofs.Common.{ℕ, List}
use Rattle.cb_alpha_network.specs.declared.node_place.NodePlace.{NodePlace}
use Rattle.cb_branch.specs.declared.branch.Branch.{Branch}
use Rattle.cb_rete.proofs.Branches.{ready_next, turned_none, turned_on, up_to_end}
use Rattle.cb_rete.proofs.Unconcerned.{branch_unconcerned}
use Rattle.cb_rete.proofs.changing.change_branches.Goals as goal

pub loop-at-init : goal.loop-at-init
loop-at-init g c =
    λ turn is of ready.
    turned_none turn c.args.found.now c.args.rule c.args.from c.args.end c.args.branches.now c.args.delta.now c.args.meter.now ready

pub loop-at-preserved : goal.loop-at-preserved
loop-at-preserved g c =
    λ turn is of ready.
    let given = c.args.setting.now.alphas.now in
    let found : List NodePlace = c.args.found.now in
    let rule : ℕ = c.args.rule in
    let from : ℕ = c.args.from in
    let end : ℕ = c.args.end in
    let old : List (Branch g.row.T.Denot) = c.args.branches.now in
    let bs : List (Branch g.row.T.Denot) = c.loop-at.branches in
    let at : ℕ = c.loop-at.at in
    let law = c.what_no_pattern_takes_changes_nothing.ensures in
    let was = c.loop-at.invariant turn is of ready in
    let unconcerned = branch_unconcerned c.what_is_kept_stays.ensures law.over law.matches turn given found is rule from end of in
    let step = c.in_ok-change_branch.ensures turn found is
    (λ b h. ready_next turn found rule from end c.requires.ordered of unconcerned old bs c.args.delta.now c.loop-at.delta c.args.meter.now c.loop-at.meter at was c.loop-at-test.true b h) in
    let next = c.end_of_branch-at.ensures in
    turned_on turn found rule from end c.requires.ordered of unconcerned old bs c.args.delta.now c.loop-at.delta c.args.meter.now c.loop-at.meter at was c.loop-at-test.true
    c.change_branch.new.branches c.change_branch.new.delta c.change_branch.new.meter c.end_of_branch-at.result next.further next.within next.passed next.stops step

pub returns : goal.returns
returns g c =
    λ turn is of ready.
    let given = c.args.setting.now.alphas.now in
    let found : List NodePlace = c.args.found.now in
    let law = c.what_no_pattern_takes_changes_nothing.ensures in
    let was = c.loop-at.invariant turn is of ready in
    let unconcerned = branch_unconcerned c.what_is_kept_stays.ensures law.over law.matches turn given found is c.args.rule c.args.from c.args.end of in
    up_to_end turn found c.args.rule c.args.from c.args.end c.requires.ordered of unconcerned c.args.branches.now c.loop-at.branches c.args.delta.now c.loop-at.delta c.args.meter.now c.loop-at.meter c.loop-at.at was
    c.loop-at-test.false
