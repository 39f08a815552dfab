use Rattle.std.proofs.Common.{◌≡◌, ap, arith, length, subst}
use Rattle.cb_number_map.proofs.Maps.{AreTaken, taken_all}
use Rattle.cb_number_map.proofs.number_map.NumberMap.take_table.Goals as goal

pub returns-clause-all : goal.returns-clause-all
returns-clause-all c =
    let some = c.loop-slot.self in
    let all = c.args.other.now in
    let i = c.loop-slot.slot-index in
    let items = c.slots-slot-items.ensures in
    let long : length all.table ≡ i = omega (arith, ap length items) in
    taken_all some all all.table i long (subst (λ it. AreTaken some all it i) items c.loop-slot.invariant.taken)
