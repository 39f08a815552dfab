use Rattle.std.proofs.Common.{◌≡◌, ◌+◌, ◌<◌, ℕ, suc, Some, ap, arith, get_or, length, refl, slice_get}
use Rattle.cb_branch.proofs.Fills.{use_at}
use Rattle.cb_branch.proofs.Loop.{flat_is, in_first, node_before, now_list, own_there, same_first, same_step, turned_first, turned_last, turned_next, was_list}
use Rattle.cb_branch.proofs.NodeProbes.{joins_more}
use Rattle.cb_branch.specs.Turning.{IsNodeDone}
use Rattle.cb_branch.specs.Nodes.{flat_node, flat_nodes}
use Rattle.cb_token_lists.proofs.Down.{got}
use Rattle.cb_branch.proofs.all_nodes.change_nodes.Goals as goal

pub overflow_add-number : goal.overflow_add-number
overflow_add-number g c = omega (arith, c.loop-node.invariant.counted)

pub loop-node-init : goal.loop-node-init
loop-node-init g c = record {
  counted = refl;
  same = same_first c.args.nodes.now;
  turned = λ before fs fs' one one' old new w. turned_first c.args.alphas.now c.args.sources.now before c.args.lists.now fs fs' one one' old new c.args.nodes.now w c.the_lists_of_nodes_have_the_values_of_their_scopes.ensures;
  probes = λ before fs fs' one one' old new added w takes. omega arith;
}

pub loop-node-preserved : goal.loop-node-preserved
loop-node-preserved g c =
    let alphas = c.args.alphas.now in
    let sources = c.args.sources.now in
    let start = c.args.lists.now in
    let first = c.args.nodes.now in
    let inv = c.loop-node.invariant in
    let scoping = c.the_lists_of_nodes_have_the_values_of_their_scopes.ensures in
    let nodes = c.loop-node.nodes in
    let lists = c.loop-node.lists in
    let i : ℕ = c.loop-node.node-index in
    let n = get_or nodes i c.node-item.result in
    let n' = c.change_list.new.node in
    let lists' = c.change_list.new.lists in
    let done = c.in_ok-change_list.ensures.done in
    let pays = c.in_ok-change_list.ensures.probes in
    let l : i < length nodes = omega arith in
    let is : slice_get nodes i ≡ Some n = got nodes i n l (ap (get_or nodes i) c.node-item.is) in
    let next : c.loop-node.number + 1 ≡ suc i = omega (arith, inv.counted) in
    record {
      counted = omega (arith, inv.counted);
      same = same_step first nodes i n n' is inv.same c.change_list.ensures.same;
      turned = λ before fs fs' one one' old new w.
          let t = inv.turned before fs fs' one one' old new w in
          let own = own_there alphas sources before start fs fs' one one' old new first w scoping lists nodes i t inv.same n is in
          let b = node_before alphas sources before start fs fs' one one' old new first w scoping lists nodes i t inv.same n is in
          let d : IsNodeDone alphas sources before lists lists' old new i n' =
          done i before fs fs' old new own.0 next b (was_list alphas sources before start fs fs' one one' old new first w scoping lists nodes i t inv.same n is)
          (now_list alphas sources before start fs fs' one one' old new first w scoping lists nodes i t inv.same n is) in
          turned_next alphas sources before start fs fs' one one' old new first w scoping lists nodes i t inv.same n is n' lists' c.change_list.ensures.same d (i + 1) (omega arith);
      probes = λ before fs fs' one one' old new added w takes.
          let t = inv.turned before fs fs' one one' old new w in
          let own = own_there alphas sources before start fs fs' one one' old new first w scoping lists nodes i t inv.same n is in
          let b = node_before alphas sources before start fs fs' one one' old new first w scoping lists nodes i t inv.same n is in
          let at = in_first alphas sources before start fs fs' one one' old new first w scoping lists nodes i t inv.same n is in
          let paid = pays i before fs fs' old new own.0 added next b (λ u e. takes i u (use_at first i n u at e)) in
          let more = joins_more added fs' old new (flat_nodes first) i (flat_node n) (flat_is alphas sources before start fs fs' one one' old new first w scoping lists nodes i t inv.same n is) in
          let so_far = inv.probes before fs fs' one one' old new added w takes in
          omega (arith, paid, more, so_far);
    }

pub returns-clause-same : goal.returns-clause-same
returns-clause-same g c = c.loop-node.invariant.same

pub returns-clause-after : goal.returns-clause-after
returns-clause-after g c before fs fs' one one' old new w =
    let inv = c.loop-node.invariant in
    let i : ℕ = c.loop-node.node-index in
    let nodes = c.loop-node.nodes in
    let end : i ≡ length nodes = omega (arith, c.loop-node-test.false, c.loop-node.auto.node-index-end) in
    turned_last c.args.alphas.now c.args.sources.now before c.args.lists.now fs fs' one one' old new c.args.nodes.now w c.the_lists_of_nodes_have_the_values_of_their_scopes.ensures c.loop-node.lists nodes i (inv.turned before fs fs' one one' old new w) inv.same end

pub returns-clause-probes : goal.returns-clause-probes
returns-clause-probes g c before fs fs' one one' old new added w takes =
    let so_far = c.loop-node.invariant.probes before fs fs' one one' old new added w takes in
    omega (arith, so_far)
