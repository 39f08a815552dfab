use Rattle.std.proofs.Common.{◌++◌, ◌<◌, ap, arith, get_or, length}
use Rattle.cb_beta.proofs.Losses.{on_ok}
use Rattle.cb_branch.proofs.Done.{before_others, cut_agree, cut_first, cut_put, cut_there, done}
use Rattle.cb_branch.proofs.one_node.change_list.Goals as goal

pub returns-clause-done : goal.returns-clause-done
returns-clause-done g c =
    let alphas = c.args.alphas.now in
    let sources = c.args.sources.now in
    let lists = c.args.lists.now in
    let n = c.args.number in
    let cut = c.split_at_mut-before in
    let read = cut.result.0.now in
    let behind = cut.result.1.now in
    let node = c.args.node.now in
    let lists' = read ++ c.change_first.new.lists in
    let some : 0 < length behind = omega (arith, cut.ensures.back_len, c.if-number-lists.false) in
    on_ok c.change_first.result
    (λ after k before fs fs' old new own at b was now.
    let taken = get_or behind 0 own in
    let is = cut_there lists read behind n k at cut.ensures.value cut.ensures.front_len some own in
    let agree = cut_agree lists read behind n k at cut.ensures.value cut.ensures.front_len some in
    let first = before_others alphas sources before lists read fs fs' old new k node own taken b is agree in
    let it = after before lists fs fs' old new k taken (cut_first lists read behind n k at cut.ensures.value cut.ensures.front_len some own) first in
    let put = cut_put lists read behind n k at cut.ensures.value cut.ensures.front_len some lists' it.own_now (ap (λ z. read ++ z) it.put) in
    done alphas sources before lists read fs fs' old new k node own taken b is agree c.change_first.new.node lists' it.own_now c.change_first.ensures.same it.after put was now)
    c.change_first.ensures.after

pub returns-clause-probes : goal.returns-clause-probes
returns-clause-probes g c =
    let alphas = c.args.alphas.now in
    let sources = c.args.sources.now in
    let lists = c.args.lists.now in
    let n = c.args.number in
    let cut = c.split_at_mut-before in
    let read = cut.result.0.now in
    let behind = cut.result.1.now in
    let some : 0 < length behind = omega (arith, cut.ensures.back_len, c.if-number-lists.false) in
    on_ok c.change_first.result
    (λ pays k before fs fs' old new own added at b takes.
    let taken = get_or behind 0 own in
    let is = cut_there lists read behind n k at cut.ensures.value cut.ensures.front_len some own in
    let agree = cut_agree lists read behind n k at cut.ensures.value cut.ensures.front_len some in
    let first = before_others alphas sources before lists read fs fs' old new k c.args.node.now own taken b is agree in
    pays before lists fs fs' old new k taken added (cut_first lists read behind n k at cut.ensures.value cut.ensures.front_len some own) first takes)
    c.change_first.ensures.probes
