use Rattle.std.proofs.Common.{◌≡◌, drop}
use Rattle.cb_templates.specs.Building.{filled}
use Rattle.cb_facts.specs.Internal.{after_those}
use Rattle.cb_templates.proofs.build.fill.Given as goal

abbrev pub invariant-loop-slot : goal.invariant-loop-slot
invariant-loop-slot l = after_those l.content.items (filled (drop l.slot-index l.slots) l.given) ≡ filled l.slots l.given
