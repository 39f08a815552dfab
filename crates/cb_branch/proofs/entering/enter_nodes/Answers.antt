use Rattle.std.proofs.Common.{◌≡◌, ◌<◌, ◌∙◌, ℕ, Some, arith, get_or, length, slice_get, subst, sym}
use Rattle.cb_branch.proofs.EnteredNodes.{entered_still, gains_then}
use Rattle.cb_branch.proofs.Numbers.{count_more, got, left_set, one_renumbered, set_either, within_got}
use Rattle.cb_branch.proofs.entering.enter_nodes.Goals as goal
use Rattle.cb_branch.specs.Entries.{IsNodeEntered, node_at}
use Rattle.cb_branch.specs.declared.node.Node.{Node}

pub loop-node-preserved : goal.loop-node-preserved
loop-node-preserved g c =
    let inv = c.loop-node.invariant in
    let old = c.args.network.now in
    let mid = c.loop-node.network in
    let new = c.enter_node.new.network in
    let olds = c.args.nodes.now in
    let xs = c.loop-node.nodes in
    let i : ℕ = c.loop-node.node-index in
    let x = get_or xs i c.node-item.result in
    let y = c.enter_node.new.node in
    let l : i < length xs = omega arith in
    let at : slice_get xs i ≡ Some x = got xs i c.node-item.result l in
    let was : slice_get olds i ≡ Some x = sym (inv.left i (omega (arith))) ∙ at in
    let now = c.in_ok-enter_node.ensures in
    let place : c.loop-node.number ≡ i = inv.place in
    let here : IsNodeEntered new (node_at c.args.rule c.args.branch i) y = subst (λ n. IsNodeEntered new (node_at c.args.rule c.args.branch n) y) place now.entered in
    record {
      place = omega (arith, place);
      same = one_renumbered olds xs i x y inv.same at now.node;
      left = λ k m. left_set xs olds i k y inv.left m;
      entered = λ k n m e. set_either (λ j (z : Node g.row.T.Denot). IsNodeEntered new (node_at c.args.rule c.args.branch j) z) xs i y here k n
          (λ ne h. entered_still mid new (node_at c.args.rule c.args.branch k) n now.network.stay (inv.entered k n (omega (arith, m, ne)) h)) e;
      gains = gains_then c.args.facts.now _ _ _ old mid new (count_more olds i x was) inv.gains now.network;
    }

pub returns-clause-entered : goal.returns-clause-entered
returns-clause-entered g c = λ k n e.
    let l : k < length c.loop-node.nodes = within_got c.loop-node.nodes k n e in
    c.loop-node.invariant.entered k n (omega (arith, l)) e
