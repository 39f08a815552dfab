use Rattle.std.proofs.Common.{arith, length, refl}
use Rattle.cb_number_map.proofs.Windows.{none_ended, none_table}
use Rattle.cb_number_map.proofs.slots.room_for.Goals as goal

pub returns-then-is_unused-clause-absent : goal.returns-then-is_unused-clause-absent
returns-then-is_unused-clause-absent c = λ _.
    let xs = c.args.slots.now in
    none_ended c.args.key c.loop-index.index (length xs) xs refl c.requires (omega (arith, c.window-from.ensures.from, c.loop-index.auto.index)) (c.if-is_unused.ensures.0 refl) c.loop-index.invariant.absent

pub returns-clause-absent : goal.returns-clause-absent
returns-clause-absent c = λ _. none_table c.args.key (length c.args.slots.now) c.args.slots.now refl (λ j f l. c.loop-index.invariant.absent j f (omega (arith, l, c.window-from.ensures.to, c.loop-index-test.false)))
