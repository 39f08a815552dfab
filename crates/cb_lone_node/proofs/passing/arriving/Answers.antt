use Rattle.cb_beta.proofs.Members.{apart_of}
use Rattle.cb_lone_node.proofs.Parents.{all_arrive}
use Rattle.cb_lone_node.proofs.passing.arriving.Goals as goal

pub returns-clause-are : goal.returns-clause-are
returns-clause-are c = all_arrive c.args.held c.args.holds c.args.come.now c.args.parents.now c.members.result.now c.if-held.false c.if-not-holds.false c.members.ensures

pub returns-clause-once : goal.returns-clause-once
returns-clause-once c once = apart_of c.members.result.now c.members.ensures.once
