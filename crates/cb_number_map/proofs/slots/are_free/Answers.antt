use Rattle.std.proofs.Common.{arith, get_or, length, refl}
use Rattle.cb_number_map.proofs.Windows.{none_table, slot_free}
use Rattle.cb_number_map.specs.Slots.{unused}
use Rattle.cb_number_map.proofs.slots.are_free.Goals as goal

pub returns : goal.returns
returns c = λ _ key.
    let slots = c.args.slots.now in
    none_table key (length slots) slots refl (λ j f l. slot_free key (get_or slots j unused) (c.loop-slot.invariant j (omega arith)))
