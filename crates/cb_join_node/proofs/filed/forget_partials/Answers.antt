use Rattle.std.proofs.Common.{arith}
use Rattle.cb_join_node.proofs.Refiled.{one_forgotten}
use Rattle.cb_join_node.proofs.filed.forget_partials.Goals as goal

pub loop-number-preserved : goal.loop-number-preserved
loop-number-preserved c =
    let inv = c.loop-number.invariant in
    one_forgotten c.args.partials.now c.loop-number.partials c.remove.new.self c.args.strays.now c.loop-number.strays c.remove-in-loop-number.new.self
    c.args.numbers.now c.loop-number.number-index (omega arith) c.remove.ensures c.remove-in-loop-number.ensures inv.0 inv.1
