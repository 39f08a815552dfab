use Rattle.std.proofs.Common.{◌≡◌, drop}
use Rattle.cb_templates.specs.Slots.{slot_named}
use Rattle.cb_templates.proofs.template.first_named.Given as goal

abbrev pub invariant-loop-slot : goal.invariant-loop-slot
invariant-loop-slot l = slot_named (drop l.slot-index l.slots) l.name ≡ slot_named l.slots l.name
