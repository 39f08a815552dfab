use Rattle.std.proofs.Common.{◌∙◌, ◌+◌, Err, List, Ok, OnOk, Result, ap, subst, sym}
use Rattle.cb_alpha_network.specs.Networks.{use_count}
use Rattle.cb_branch.proofs.Entered.{patterns_are, used_are}
use Rattle.cb_branch.proofs.branch.Branch.leave.Goals as goal
use Rattle.cb_branch.specs.Entries.{AreNodesEntered}
use Rattle.cb_flat.specs.Taking.{pattern_count}
use Rattle.cb_branch.specs.Nodes.{flat_nodes}
use Rattle.cb_branch.specs.declared.node.Node.{Node}

on_both : {A E P Q R : Type 0} (r : Result A E) → (P → Q → R) → OnOk r P → OnOk r Q → OnOk r R
on_both (Ok a) f h k = f h k
on_both (Err e) f h k = h

pub returns-clause-left : goal.returns-clause-left
returns-clause-left g c =
    let b = c.args.self.now in
    let network = c.args.network.now in
    on_both c.leave_nodes.result
    (λ others count planned used.
    let rule = c.args.rule in
    let number = c.args.number in
    let entered : AreNodesEntered network rule number c.as_slice.result.now =
    subst (λ (it : List (Node g.row.T.Denot)). AreNodesEntered network rule number it) (sym c.as_slice.ensures.value) (used_are network rule number b.nodes.items used) in
    record {
      others = others;
      count = ap (λ n. use_count c.leave_nodes.new.network + n) (sym (ap (λ (it : List (Node g.row.T.Denot)). pattern_count (flat_nodes it)) c.as_slice.ensures.value ∙ patterns_are b planned))
          ∙ count entered;
    })
    c.leave_nodes.ensures.others c.leave_nodes.ensures.count
