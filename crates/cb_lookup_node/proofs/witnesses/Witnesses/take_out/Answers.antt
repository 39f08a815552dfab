use Rattle.cb_lookup_node.proofs.Placed.{taken_out}
use Rattle.cb_lookup_node.proofs.witnesses.Witnesses.take_out.Goals as goal

pub returns : goal.returns
returns c =
    let w = c.args.self.now in
    taken_out w (record w { given = c.remove.new.self; unseen = c.remove-2.new.self }) c.args.number c.remove.ensures c.remove-2.ensures
