use Rattle.std.proofs.Common.{◌≡◌, ◌++◌, drop, length}
use Rattle.cb_templates.specs.Building.{given_names}
use Rattle.cb_templates.proofs.parts.places_of.Given as goal

abbrev pub invariant-loop-slot : goal.invariant-loop-slot
invariant-loop-slot l = (l.places ++ given_names (drop l.slot-index l.slots) ≡ given_names l.slots)
    × (l.at ≡ length l.places) × (l.at ≡ l.slot-index)
