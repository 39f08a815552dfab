use Rattle.std.proofs.Common.{◌≡◌, [], rules, subst}
use Rattle.cb_number_map.proofs.Maps.{AreLeft, none_left}
use Rattle.cb_number_map.proofs.number_map.NumberMap.take_aside.Goals as goal

pub returns : goal.returns
returns c =
    let none : c.loop-key.key-iterator ≡ [] = search rules in
    let inv = c.loop-key.invariant in
    none_left c.loop-key.self c.args.other.now inv.among inv.table (subst (AreLeft c.loop-key.self c.args.other.now) none inv.left)
