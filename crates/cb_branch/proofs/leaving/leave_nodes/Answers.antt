use Rattle.std.proofs.Common.{◌≡◌, ◌<◌, ◌≤◌, ◌+◌, ◌∙◌, ℕ, Some, ap, arith, length, refl, slice_get, subst, sym}
use Rattle.cb_alpha_network.specs.Networks.{KeepsShapesBut, use_count}
use Rattle.cb_branch.proofs.EnteredNodes.{entered_before, kept_elsewhere, kept_more}
use Rattle.cb_branch.proofs.Numbers.{count_more, got_is, whole}
use Rattle.cb_branch.proofs.leaving.leave_nodes.Goals as goal
use Rattle.cb_branch.specs.Entries.{IsNodeEntered, node_at}
use Rattle.cb_flat.specs.Taking.{pattern_count, patterns_of}
use Rattle.cb_branch.specs.Nodes.{flat_node, flat_nodes}

pub loop-node-init : goal.loop-node-init
loop-node-init g c = record {
  place = refl;
  kept = λ n p place h apart. (h, refl);
  alphas = λ fs are. are;
  count = λ entered. omega (arith);
}

pub loop-node-preserved : goal.loop-node-preserved
loop-node-preserved g c =
    let inv = c.loop-node.invariant in
    let rule = c.args.rule in
    let branch = c.args.branch in
    let old = c.args.network.now in
    let mid = c.loop-node.network in
    let new = c.leave_node.new.network in
    let nodes = c.args.nodes.now in
    let i : ℕ = c.loop-node.node-index in
    let node = c.node-item.result in
    let l : i < length nodes = omega arith in
    let at : slice_get nodes i ≡ Some node = got_is nodes i node l c.node-item.is in
    let place : c.loop-node.number ≡ i = inv.place in
    let now = c.in_ok-leave_node.ensures in
    record {
      place = omega (arith, place);
      kept = kept_more rule branch i old mid new inv.kept (subst (λ n. KeepsShapesBut (node_at rule branch n) mid new) place now.others);
      alphas = λ fs are. now.alphas fs (inv.alphas fs are);
      count = λ entered.
          let e = subst (λ n. IsNodeEntered mid (node_at rule branch n) node → use_count new + patterns_of (flat_node node) ≡ use_count mid) place now.count
          (entered_before rule branch i old mid node inv.kept (entered i node at)) in
          let f = inv.count entered in
          let more = count_more nodes i node at in
          omega (arith, e, f, more);
    }

pub returns-clause-others : goal.returns-clause-others
returns-clause-others g c = kept_elsewhere c.args.rule c.args.branch c.loop-node.node-index c.args.network.now c.loop-node.network c.loop-node.invariant.kept

pub returns-clause-count : goal.returns-clause-count
returns-clause-count g c = λ entered.
    let nodes = c.args.nodes.now in
    let all : length nodes ≤ c.loop-node.node-index = omega arith in
    ap (λ it. use_count c.loop-node.network + pattern_count (flat_nodes it)) (sym (whole nodes c.loop-node.node-index all)) ∙ c.loop-node.invariant.count entered
