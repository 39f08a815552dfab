use Rattle.std.proofs.Common.{◌≡◌, drop}
use Rattle.cb_templates.specs.Building.{given_for}
use Rattle.cb_templates.proofs.parts.first_given.Given as goal

abbrev pub invariant-loop-slot : goal.invariant-loop-slot
invariant-loop-slot l = given_for (drop l.slot-index l.slots) l.name ≡ given_for l.slots l.name
