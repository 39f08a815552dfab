use Rattle.cb_branch.proofs.Ready.{join_planned}
use Rattle.cb_branch.proofs.planning.pattern_node.Goals as goal

pub returns-clause-planned : goal.returns-clause-planned
returns-clause-planned g c = λ scopes same.
    join_planned scopes c.args.bound.now c.args.from c.in_ok-asked.asked c.new.result same c.new.ensures.asked c.new.ensures.from c.in_ok-asked.ensures.fields c.in_ok-asked.ensures.by_values c.new.ensures.ready
