use Rattle.std.proofs.Common.{ℕ, ap, arith, get_or}
use Rattle.cb_branch.proofs.Endings.{ended_first, ended_last, ended_step}
use Rattle.cb_branch.proofs.all_nodes.end_change.Goals as goal

pub loop-list-init : goal.loop-list-init
loop-list-init c = ended_first c.args.lists.now

pub loop-list-preserved : goal.loop-list-preserved
loop-list-preserved c =
    let lists = c.loop-list.lists in
    let i : ℕ = c.loop-list.list-index in
    ended_step c.args.lists.now lists i (get_or lists i c.list-item.result) c.end_change.new.self (omega arith) (ap (get_or lists i) c.list-item.is) c.end_change.ensures c.loop-list.invariant

pub returns : goal.returns
returns c = ended_last c.args.lists.now c.loop-list.lists c.loop-list.list-index c.loop-list.invariant (omega (arith, c.loop-list-test.false, c.loop-list.auto.list-index-end))
