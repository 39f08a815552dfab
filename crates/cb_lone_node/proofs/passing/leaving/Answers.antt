use Rattle.cb_lone_node.proofs.Parents.{all_leave}
use Rattle.cb_lone_node.proofs.passing.leaving.Goals as goal

pub returns : goal.returns
returns c = all_leave c.args.held c.args.holds c.args.parents.now c.members.result.now c.if-not-held.false c.if-holds.false c.members.ensures
