use Rattle.std.proofs.Common.{◌≡◌, drop}
use Rattle.cb_templates.specs.Building.{with_kept_slots}
use Rattle.cb_templates.proofs.build.keep_slots.Given as goal

abbrev pub invariant-loop-slot : goal.invariant-loop-slot
invariant-loop-slot l = with_kept_slots l.all (drop l.slot-index l.slots) ≡ with_kept_slots l.fn.given.items l.slots
