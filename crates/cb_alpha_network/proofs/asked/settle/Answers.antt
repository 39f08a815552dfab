use Rattle.std.proofs.Common.{rules}
use Rattle.cb_alpha_network.proofs.SpotLaws.{drop_keeps}
use Rattle.cb_alpha_network.proofs.asked.settle.Goals as goal

pub returns-then-has_none : goal.returns-then-has_none
returns-then-has_none c = drop_keeps c.args.spots.now c.remove.new.self c.args.relation.now (c.has_none.ensures c.if-has_none.true) c.remove.ensures.updates
