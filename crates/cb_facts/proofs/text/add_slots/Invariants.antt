use Rattle.std.proofs.Common.{◌≡◌, ◌++◌, take}
use Rattle.std.specs.List.{flat_map}
use Rattle.cb_facts.specs.Texts.{slot_bytes}
use Rattle.cb_facts.proofs.text.add_slots.Given as goal

abbrev pub invariant-loop-slot : goal.invariant-loop-slot
invariant-loop-slot l = l.text.items ≡ l.initial.text.items ++ flat_map slot_bytes (take l.slot-index l.pairs)
