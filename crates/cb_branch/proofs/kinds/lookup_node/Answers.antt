use Rattle.cb_branch.proofs.Ready.{lookup_planned}
use Rattle.cb_branch.proofs.kinds.lookup_node.Goals as goal

pub returns-clause-planned : goal.returns-clause-planned
returns-clause-planned g c = λ scopes same.
    lookup_planned scopes c.args.bound.now c.args.from c.in_ok-node.node c.args.pattern c.args.compared.items c.in_ok-known.known.items same c.in_ok-node.ensures.from c.in_ok-known.ensures
    c.requires.decided c.in_ok-node.ensures.lookup c.in_ok-node.ensures.ready
